-- Links between keys, from links between rows.
use Rattle.std.proofs.lemmas.Bool.{cases_Bool}
use Rattle.std.proofs.Common.{◌≡◌, ℕ, zero, suc, ◌-◌, ◌<◌, ◌≤◌, Bool, cond, List, [], ◌∷◌, ◌++◌, map, length, get_or, take, drop, Some, Option, sym, refl, ap, ◌∙◌, inl, inr, arith}
use mathlib.Core.List.{reverse_aux}
use Rattle.links.specs.Chain.{Each, nearest, reach}
use Rattle.links.specs.Report.{those}
use Rattle.links.specs.Ring.{turned}
use Rattle.links.proofs.Chains.{hit, miss}
use Rattle.links.proofs.Reports.{those_hit, those_miss}
use Rattle.skip_list.specs.Law.{reaching}
use Rattle.skip_list.specs.Lent.{lower, picked}
use Rattle.skip_list.specs.Tower.{first_in, further, high, key_link, key_of, nearest_key}
use Rattle.skip_list.proofs.Picks.{some_key}

-- rows that have a key
abbrev pub Keyed : {A : Type 0} → List A → List ℕ → Type 0
Keyed keys os = Each (λ r. (0 < r) × (r ≤ length keys)) os

module _ {A : Type 0} where
  first_one : (ys : List A) (x : A) → take 1 ys ≡ x ∷ [] → first_in ys ≡ Some x
  first_one [] x e = cc
  first_one (y ∷ ys) x e = cc

  key_of_lem : (keys : List A) (r : ℕ) (x : A) → 0 < r → take 1 (drop (r - 1) keys) ≡ x ∷ [] → key_of keys r ≡ Some x
  key_of_lem keys zero x lt e = absurd (omega arith)
  key_of_lem keys (suc r) x lt e = let q : suc r - 1 ≡ r = omega arith in first_one (drop r keys) x (ap (λ (n : ℕ). take 1 (drop n keys)) (sym q) ∙ e)

  -- the key that a row has
  pub key_read : (keys : List A) (r : ℕ) (x : A) → 0 < r → r ≤ length keys → get_or keys (r - 1) x ≡ x → key_of keys r ≡ Some x
  key_read keys zero x lt le e = absurd (omega arith)
  key_read keys (suc r) x lt le e = let q : suc r - 1 ≡ r = omega arith in read keys r (omega arith) (ap (λ (n : ℕ). get_or keys n x) (sym q) ∙ e)
    where
      read : (ys : List A) (n : ℕ) → n < length ys → get_or ys n x ≡ x → first_in (drop n ys) ≡ Some x
      read [] n below same = absurd (omega arith)
      read (y ∷ ys) zero below same = ap Some same
      read (y ∷ ys) (suc n) below same = read ys n (omega arith) same

module _ {A : Type 0} (keys : List A) (ls : List ℕ) (l : ℕ) where
  row_key : (r : ℕ) → 0 < r → r ≤ length keys → (x : A) × (take 1 (drop (r - 1) keys) ≡ x ∷ []) × (key_of keys r ≡ Some x)
  row_key r lt le = let k = some_key keys (r - 1) (omega arith) in (k.0, k.1, key_of_lem keys r k.0 lt k.1)

  -- the nearest row, as the nearest key
  pub nearest_key_lem : (os : List ℕ) → Keyed keys os → key_link keys (nearest (reach ls l) os) ≡ nearest_key l (picked keys (lower os)) (high ls os)
  nearest_key_lem [] b = refl
  nearest_key_lem (r ∷ os) b =
      let k = row_key r b.0.0 b.0.1 in
      let xs = picked keys (lower os) in
      let vs = high ls os in
      let here : nearest_key l (picked keys (lower (r ∷ os))) (high ls (r ∷ os)) ≡ cond (reach ls l r) (record { key = Some k.0; count = 1 }) (further (nearest_key l xs vs)) =
      ap (λ (ys : List A). nearest_key l (ys ++ xs) (get_or ls r 0 ∷ vs)) k.1 in
      elim (cases_Bool (reach ls l r)) [
        | inl y ↦ ap (key_link keys) (hit (reach ls l) r os y) ∙ ap (λ (o : Option A). record { key = o; count = 1 }) k.2
            ∙ sym (here ∙ ap (λ (v : Bool). cond v (record { key = Some k.0; count = 1 }) (further (nearest_key l xs vs))) y)
        | inr y ↦ ap (key_link keys) (miss (reach ls l) r os y) ∙ ap further (nearest_key_lem os b.1)
            ∙ sym (here ∙ ap (λ (v : Bool). cond v (record { key = Some k.0; count = 1 }) (further (nearest_key l xs vs))) y)
      ]

  -- the rows that reach a level, as the keys that do
  pub those_keys : (os : List ℕ) → Keyed keys os → map (key_of keys) (those (reach ls l) os) ≡ map Some (reaching l (picked keys (lower os)) (high ls os))
  those_keys [] b = refl
  those_keys (r ∷ os) b =
      let k = row_key r b.0.0 b.0.1 in
      let xs = picked keys (lower os) in
      let vs = high ls os in
      let more = those_keys os b.1 in
      let here : reaching l (picked keys (lower (r ∷ os))) (high ls (r ∷ os)) ≡ cond (reach ls l r) (k.0 ∷ reaching l xs vs) (reaching l xs vs) =
      ap (λ (ys : List A). reaching l (ys ++ xs) (get_or ls r 0 ∷ vs)) k.1 in
      elim (cases_Bool (reach ls l r)) [
        | inl y ↦ ap (map (key_of keys)) (those_hit (reach ls l) r os y) ∙ ap (λ (o : Option A). o ∷ map (key_of keys) (those (reach ls l) os)) k.2 ∙ ap (λ (ys : List (Option A)). Some k.0 ∷ ys) more
            ∙ sym (ap (map Some) (here ∙ ap (λ (v : Bool). cond v (k.0 ∷ reaching l xs vs) (reaching l xs vs)) y))
        | inr y ↦ ap (map (key_of keys)) (those_miss (reach ls l) r os y) ∙ more ∙ sym (ap (map Some) (here ∙ ap (λ (v : Bool). cond v (k.0 ∷ reaching l xs vs) (reaching l xs vs)) y))
      ]

-- lists turned round
pub turned_reverse : (us zs : List ℕ) → turned us zs ≡ reverse_aux us zs
turned_reverse [] zs = refl
turned_reverse (u ∷ us) zs = turned_reverse us (u ∷ zs)

pub map_reverse : {A B : Type 0} (f : A → B) (us zs : List A) → map f (reverse_aux us zs) ≡ reverse_aux (map f us) (map f zs)
map_reverse f [] zs = refl
map_reverse f (u ∷ us) zs = map_reverse f us (u ∷ zs)

pub high_reverse : (ls us zs : List ℕ) → high ls (turned us zs) ≡ reverse_aux (high ls us) (high ls zs)
high_reverse ls [] zs = refl
high_reverse ls (u ∷ us) zs = high_reverse ls us (u ∷ zs)

pub picked_reverse : {A : Type 0} (keys : List A) (us zs : List ℕ) → Keyed keys us → picked keys (lower (turned us zs)) ≡ reverse_aux (picked keys (lower us)) (picked keys (lower zs))
picked_reverse keys [] zs b = refl
picked_reverse keys (u ∷ us) zs b =
    let k = some_key keys (u - 1) (omega (arith, b.0.0, b.0.1)) in
    picked_reverse keys us (u ∷ zs) b.1
    ∙ ap (λ ys. reverse_aux (picked keys (lower us)) (ys ++ picked keys (lower zs))) k.1
    ∙ sym (ap (λ ys. reverse_aux (ys ++ picked keys (lower us)) (picked keys (lower zs))) k.1)

pub high_take : (ls os : List ℕ) (i : ℕ) → high ls (take i os) ≡ take i (high ls os)
high_take ls os zero = refl
high_take ls [] (suc i) = refl
high_take ls (o ∷ os) (suc i) = ap (λ ys. get_or ls o 0 ∷ ys) (high_take ls os i)

pub high_drop : (ls os : List ℕ) (i : ℕ) → high ls (drop i os) ≡ drop i (high ls os)
high_drop ls os zero = refl
high_drop ls [] (suc i) = refl
high_drop ls (o ∷ os) (suc i) = high_drop ls os i

pub lower_take : (os : List ℕ) (i : ℕ) → lower (take i os) ≡ take i (lower os)
lower_take os zero = refl
lower_take [] (suc i) = refl
lower_take (o ∷ os) (suc i) = ap (λ ys. (o - 1) ∷ ys) (lower_take os i)

pub lower_drop : (os : List ℕ) (i : ℕ) → lower (drop i os) ≡ drop i (lower os)
lower_drop os zero = refl
lower_drop [] (suc i) = refl
lower_drop (o ∷ os) (suc i) = lower_drop os i

each_take : (P : ℕ → Type 0) (i : ℕ) (os : List ℕ) → Each P os → Each P (take i os)
each_take P zero os e = tt
each_take P (suc i) [] e = tt
each_take P (suc i) (o ∷ os) e = (e.0, each_take P i os e.1)

each_drop : (P : ℕ → Type 0) (i : ℕ) (os : List ℕ) → Each P os → Each P (drop i os)
each_drop P zero os e = e
each_drop P (suc i) [] e = tt
each_drop P (suc i) (o ∷ os) e = each_drop P i os e.1

each_turned : (P : ℕ → Type 0) (us zs : List ℕ) → Each P us → Each P zs → Each P (turned us zs)
each_turned P [] zs e z = z
each_turned P (u ∷ us) zs e z = each_turned P us (u ∷ zs) e.1 (e.0, z)

pub keyed_drop : {A : Type 0} (keys : List A) (os : List ℕ) (i : ℕ) → Keyed keys os → Keyed keys (drop i os)
keyed_drop keys os i b = each_drop _ i os b

pub keyed_take : {A : Type 0} (keys : List A) (os : List ℕ) (i : ℕ) → Keyed keys os → Keyed keys (take i os)
keyed_take keys os i b = each_take _ i os b

pub keyed_turned : {A : Type 0} (keys : List A) (os : List ℕ) → Keyed keys os → Keyed keys (turned os [])
keyed_turned keys os b = each_turned _ os [] b tt
