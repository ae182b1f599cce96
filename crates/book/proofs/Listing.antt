-- The numbers that have a rule: one more place at a time, and at most as many as the table has records.
use Rattle.std.proofs.Common.{◌≡◌, ℕ, zero, suc, ◌+◌, ◌<◌, ◌≤◌, Bool, true, false, cond, eqb, List, [], ◌∷◌, ◌++◌, length, take, drop, is_some, None, Option, sym, refl, ap, ◌∙◌, subst, ⊎_elim, append-nil, arith, eq-eqb, ne_eqb}
use Rattle.std.proofs.lemmas.List.{get_or_past, length-append, take-append-drop, take_more}
use Rattle.std.proofs.lemmas.Bool.{cases_eq}
use Rattle.order.specs.Order.{At, Absent, Distinct}
use Rattle.order.specs.declared.keys.RuleNumber.{RuleNumber}
use Rattle.book.specs.declared.rule.Rule.{Rule}
use Rattle.book.specs.Pages.{key, recorded, ruled, with_rule}
use Rattle.book.proofs.Leaving.{absent_rest, at_later, distinct_rest, numbered}

module _ (rules : ℕ → Option Rule) where
  pub ruled_append : (xs ys : List RuleNumber) → ruled rules (xs ++ ys) ≡ ruled rules xs ++ ruled rules ys
  ruled_append [] ys = refl
  ruled_append (x ∷ xs) ys =
      elim (is_some (rules x.value)) as (λ b. cond b (x.value ∷ ruled rules (xs ++ ys)) (ruled rules (xs ++ ys)) ≡ cond b (x.value ∷ ruled rules xs) (ruled rules xs) ++ ruled rules ys) [
        | true ↦ ap (λ (ns : List ℕ). x.value ∷ ns) (ruled_append xs ys)
        | false ↦ ruled_append xs ys
      ]

  -- the place p is passed: its number is listed where it has a rule
  pub ruled_more : (xs : List RuleNumber) (p : ℕ) (k : RuleNumber) → At xs p k
      → ruled rules (take (p + 1) xs) ≡ ruled rules (take p xs) ++ cond (is_some (rules k.value)) (k.value ∷ []) []
  ruled_more xs p k (lt, is) =
      ap (ruled rules) (take_more xs p k lt ∙ ap (λ (x : RuleNumber). take p xs ++ x ∷ []) is) ∙ ruled_append (take p xs) (k ∷ [])

  -- so many of the first places have a rule, and no more in all
  pub ruled_part : (xs : List RuleNumber) (p : ℕ) → length (ruled rules (take p xs)) ≤ length (ruled rules xs)
  ruled_part xs p =
      let whole = ap (λ (ys : List RuleNumber). length (ruled rules ys)) (take-append-drop p xs) in
      let both = ap length (ruled_append (take p xs) (drop p xs)) in
      let sum = length-append (ruled rules (take p xs)) (ruled rules (drop p xs)) in
      omega arith

  -- a number that stands nowhere may lose its rule
  unlisted : (n : ℕ) (xs : List RuleNumber) → Absent xs (key n) → ruled (with_rule n None rules) xs ≡ ruled rules xs
  unlisted n [] absent = refl
  unlisted n (k ∷ ks) absent =
      let other : eqb k.value n ≡ false = ne_eqb k.value n (λ e. absent 0 (omega arith, numbered k n e)) in
      ap (λ (b : Bool). cond (is_some (cond b None (rules k.value))) (k.value ∷ ruled (with_rule n None rules) ks) (ruled (with_rule n None rules) ks)) other
      ∙ ap (λ (ns : List ℕ). cond (is_some (rules k.value)) (k.value ∷ ns) ns) (unlisted n ks (absent_rest k ks _ absent))

  at_most_one : (b : Bool) (n : ℕ) (ns : List ℕ) → length (cond b (n ∷ ns) ns) ≤ suc (length ns)
  at_most_one true n ns = omega arith
  at_most_one false n ns = omega arith

  one_more : (b : Bool) (n : ℕ) (ns ms : List ℕ) → length ns ≤ suc (length ms) → length (cond b (n ∷ ns) ns) ≤ suc (length (cond b (n ∷ ms) ms))
  one_more true n ns ms le = omega arith
  one_more false n ns ms le = le

  -- without the rule of one number, one fewer at most is listed
  one_fewer : (n : ℕ) (xs : List RuleNumber) → Distinct xs → length (ruled rules xs) ≤ suc (length (ruled (with_rule n None rules) xs))
  one_fewer n [] apart = omega arith
  one_fewer n (k ∷ ks) apart =
      ⊎_elim
      (λ e.
      let here : At (k ∷ ks) 0 (key n) = (omega arith, numbered k n e) in
      let rest = unlisted n ks (λ j at. let z = apart 0 (suc j) (key n) here (at_later k ks j _ at) in omega arith) in
      let gone : ruled (with_rule n None rules) (k ∷ ks) ≡ ruled rules ks =
      ap (λ (b : Bool). cond (is_some (cond b None (rules k.value))) (k.value ∷ ruled (with_rule n None rules) ks) (ruled (with_rule n None rules) ks)) (eq-eqb k.value n e) ∙ rest in
      subst (λ (ns : List ℕ). length (ruled rules (k ∷ ks)) ≤ suc (length ns)) (sym gone) (at_most_one (is_some (rules k.value)) k.value (ruled rules ks)))
      (λ ne.
      let kept : ruled (with_rule n None rules) (k ∷ ks) ≡ cond (is_some (rules k.value)) (k.value ∷ ruled (with_rule n None rules) ks) (ruled (with_rule n None rules) ks) =
      ap (λ (b : Bool). cond (is_some (cond b None (rules k.value))) (k.value ∷ ruled (with_rule n None rules) ks) (ruled (with_rule n None rules) ks)) (ne_eqb k.value n ne) in
      subst (λ (ns : List ℕ). length (ruled rules (k ∷ ks)) ≤ suc (length ns)) (sym kept)
      (one_more (is_some (rules k.value)) k.value _ _ (one_fewer n ks (distinct_rest k ks apart))))
      (cases_eq k.value n)

-- where no number has a rule, none is listed
none_listed : (rules : ℕ → Option Rule) (xs : List RuleNumber) → ((k : ℕ) → rules k ≡ None) → ruled rules xs ≡ []
none_listed rules [] none = refl
none_listed rules (k ∷ ks) none =
    ap (λ (o : Option Rule). cond (is_some o) (k.value ∷ ruled rules ks) (ruled rules ks)) (none k.value) ∙ none_listed rules ks none

-- distinct numbers below n: at most n have a rule
pub at_most : (n : ℕ) (rules : ℕ → Option Rule) (xs : List RuleNumber) → Distinct xs → ((k : ℕ) → n ≤ k → rules k ≡ None) → length (ruled rules xs) ≤ n
at_most zero rules xs apart none = let e = ap length (none_listed rules xs (λ k. none k (omega arith))) in omega arith
at_most (suc n) rules xs apart none =
    let fewer = one_fewer rules n xs apart in
    let rest = at_most n (with_rule n None rules) xs apart (λ k le.
    ⊎_elim (λ e. ap (λ (b : Bool). cond b None (rules k)) (eq-eqb k n e))
    (λ ne. ap (λ (b : Bool). cond b None (rules k)) (ne_eqb k n ne) ∙ none k (omega arith)) (cases_eq k n)) in
    omega arith

pub recorded_most : (records : List (Option Rule)) (xs : List RuleNumber) → Distinct xs → length (ruled (recorded records) xs) ≤ length records
recorded_most records xs apart = at_most (length records) (recorded records) xs apart (λ k le. get_or_past records k None le)

-- the place p with the key k is passed, where the numbers ns are listed
module _ (records : List (Option Rule)) (xs : List RuleNumber) (ns : List ℕ) (p : ℕ) (k : RuleNumber)
    (here : At xs p k) (lists : ns ≡ ruled (recorded records) (take p xs)) where
  more : (b : Bool) → is_some (recorded records k.value) ≡ b → ruled (recorded records) (take (p + 1) xs) ≡ ns ++ cond b (k.value ∷ []) []
  more b e =
      ruled_more (recorded records) xs p k here ∙ ap (λ (c : Bool). ruled (recorded records) (take p xs) ++ cond c (k.value ∷ []) []) e
      ∙ ap (λ (ms : List ℕ). ms ++ cond b (k.value ∷ []) []) (sym lists)

  pub list_ruled : is_some (recorded records k.value) ≡ true → ns ++ k.value ∷ [] ≡ ruled (recorded records) (take (p + 1) xs)
  list_ruled e = sym (more true e)

  pub list_past : is_some (recorded records k.value) ≡ false → ns ≡ ruled (recorded records) (take (p + 1) xs)
  list_past e = sym (more false e ∙ append-nil ns)

  pub list_room : Distinct xs → length records ≡ 256 → is_some (recorded records k.value) ≡ true → length ns < 256
  list_room apart size e =
      let part = ruled_part (recorded records) xs (p + 1) in
      let most = recorded_most records xs apart in
      let one = ap length (more true e) ∙ length-append ns (k.value ∷ []) in
      omega arith
