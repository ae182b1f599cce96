-- The keys of rows, and the rows of the index.
use Rattle.std.proofs.Common.{◌≡◌, ℕ, zero, suc, ◌+◌, ◌-◌, ◌<◌, ◌≢◌, List, [], ◌∷◌, ◌++◌, length, get_or, take, drop, set, sym, refl, ap, ◌∙◌, subst, ⊎_elim, arith, take-append-drop, drop-cons, get_or-set_other, get_or-set_same}
use lib.ListN.{length-map, get_or-map}
use Rattle.std.specs.List.{insert, remove}
use Rattle.std.proofs.lemmas.List.{append_assoc, length-set, get_or_default}
use Rattle.std.proofs.lemmas.Bool.{cases_eq}
use Rattle.links.specs.Chain.{Each}
use Rattle.index.specs.Index.{mark, tally}
use Rattle.index.proofs.Chains.{mark_same, mark_other}
use Rattle.index.proofs.Cut.{tally_append}
use Rattle.order.specs.Order.{At}
use Rattle.skip_list.specs.Lent.{lower, picked}

abbrev pub Below : ℕ → List ℕ → Type 0
Below n rs = Each (λ r. r < n) rs

module _ {A : Type 0} where
  one : (keys : List A) (r : ℕ) (d : A) → r < length keys → take 1 (drop r keys) ≡ get_or keys r d ∷ []
  one keys r d lt = ap (λ x. take 1 x) (drop-cons keys r d lt)

  pub some_key : (keys : List A) (r : ℕ) → r < length keys → (k : A) × (take 1 (drop r keys) ≡ k ∷ [])
  some_key [] r lt = absurd (omega arith)
  some_key (x ∷ keys) zero lt = (x, refl)
  some_key (x ∷ keys) (suc r) lt = some_key keys r (omega arith)

  -- what a key written into another row leaves
  one_kept : (keys : List A) (r q : ℕ) (k : A) → q ≢ r → q < length keys → take 1 (drop q (set keys r k)) ≡ take 1 (drop q keys)
  one_kept keys r q k ne lt =
      let l = length-set keys r k in
      one (set keys r k) q k (omega arith) ∙ ap (λ x. x ∷ []) (get_or-set_other keys r q k k ne) ∙ sym (one keys q k lt)

  one_written : (keys : List A) (r : ℕ) (k : A) → r < length keys → take 1 (drop r (set keys r k)) ≡ k ∷ []
  one_written keys r k lt =
      let l = length-set keys r k in
      one (set keys r k) r k (omega arith) ∙ ap (λ x. x ∷ []) (get_or-set_same keys r k k lt)

  pub length_picked : (keys : List A) (rs : List ℕ) → Below (length keys) rs → length (picked keys rs) ≡ length rs
  length_picked keys [] b = refl
  length_picked keys (r ∷ rs) b = ap (λ x. length (x ++ picked keys rs)) (some_key keys r b.0).1 ∙ ap suc (length_picked keys rs b.1)

  pub picked_at : (keys : List A) (rs : List ℕ) (i : ℕ) (d : A) → Below (length keys) rs → i < length rs → get_or (picked keys rs) i d ≡ get_or keys (get_or rs i 0) d
  picked_at keys [] i d b lt = absurd (omega arith)
  picked_at keys (r ∷ rs) zero d b lt = ap (λ x. get_or (x ++ picked keys rs) 0 d) (one keys r d b.0)
  picked_at keys (r ∷ rs) (suc i) d b lt = ap (λ x. get_or (x ++ picked keys rs) (suc i) d) (one keys r d b.0) ∙ picked_at keys rs i d b.1 (omega arith)

  picked_append : (keys : List A) (xs ys : List ℕ) → picked keys (xs ++ ys) ≡ picked keys xs ++ picked keys ys
  picked_append keys [] ys = refl
  picked_append keys (x ∷ xs) ys = ap (λ z. take 1 (drop x keys) ++ z) (picked_append keys xs ys) ∙ sym (append_assoc (take 1 (drop x keys)) (picked keys xs) (picked keys ys))

  pub picked_take : (keys : List A) (rs : List ℕ) (i : ℕ) → Below (length keys) rs → picked keys (take i rs) ≡ take i (picked keys rs)
  picked_take keys rs zero b = refl
  picked_take keys [] (suc i) b = refl
  picked_take keys (r ∷ rs) (suc i) b =
      let s = some_key keys r b.0 in
      ap (λ x. x ++ picked keys (take i rs)) s.1 ∙ ap (λ x. s.0 ∷ x) (picked_take keys rs i b.1) ∙ sym (ap (λ x. take (suc i) (x ++ picked keys rs)) s.1)

  pub picked_drop : (keys : List A) (rs : List ℕ) (i : ℕ) → Below (length keys) rs → picked keys (drop i rs) ≡ drop i (picked keys rs)
  picked_drop keys rs zero b = refl
  picked_drop keys [] (suc i) b = refl
  picked_drop keys (r ∷ rs) (suc i) b = picked_drop keys rs i b.1 ∙ sym (ap (λ x. drop (suc i) (x ++ picked keys rs)) (some_key keys r b.0).1)

  pub picked_removed : (keys : List A) (rs : List ℕ) (i : ℕ) → Below (length keys) rs → picked keys (remove rs i) ≡ remove (picked keys rs) i
  picked_removed keys rs i b =
      let t = picked_take keys rs i b in
      let d = picked_drop keys rs (suc i) b in
      picked_append keys (take i rs) (drop (suc i) rs) ∙ cc

  picked_kept : (keys : List A) (r : ℕ) (k : A) (rs : List ℕ) → tally r rs ≡ 0 → Below (length keys) rs → picked (set keys r k) rs ≡ picked keys rs
  picked_kept keys r k [] out b = refl
  picked_kept keys r k (q ∷ rs) out b =
      let ne : q ≢ r = λ e. omega (arith, mark_same r, ap (λ x. mark r x) e) in
      let o = one_kept keys r q k ne b.0 in
      let p = picked_kept keys r k rs (omega arith) b.1 in
      cc

  below_set : (keys : List A) (r : ℕ) (k : A) (rs : List ℕ) → Below (length keys) rs → Below (length (set keys r k)) rs
  below_set keys r k rs b = subst (λ (n : ℕ). Below n rs) (sym (length-set keys r k)) b

  pub picked_inserted : (keys : List A) (rs : List ℕ) (i r : ℕ) (k : A) → r < length keys → tally r rs ≡ 0 → Below (length keys) rs →
      picked (set keys r k) (insert rs i r) ≡ insert (picked keys rs) i k
  picked_inserted keys rs i r k lt out b =
      let b' = below_set keys r k rs b in
      let p = picked_kept keys r k rs out b in
      let t = picked_take (set keys r k) rs i b' in
      let d = picked_drop (set keys r k) rs i b' in
      let o = one_written keys r k lt in
      picked_append (set keys r k) (take i rs) (r ∷ drop i rs) ∙ cc

  -- the key of a row at its place
  pub kept_at : (keys : List A) (rs : List ℕ) (i r : ℕ) (k : A) → Below (length keys) rs → At rs i r → get_or keys r k ≡ k → At (picked keys rs) i k
  kept_at keys rs i r k b a e = (
    omega (arith, length_picked keys rs b, a.0),
    picked_at keys rs i k b a.0 ∙ ap (λ q. get_or keys q k) (get_or_default rs i 0 r a.0 ∙ a.1) ∙ e,
  )

  -- the row of a key that stands at a place
  pub row_at : (keys : List A) (rs : List ℕ) (i : ℕ) (k : A) → Below (length keys) rs → At (picked keys rs) i k → (i < length rs) × (get_or keys (get_or rs i 0) k ≡ k)
  row_at keys rs i k b a =
      let lt : i < length rs = omega (arith, length_picked keys rs b, a.0) in
      (lt, sym (picked_at keys rs i k b lt) ∙ a.1)

-- how often rows stand
pub tally_inserted : (x : ℕ) (rs : List ℕ) (i r : ℕ) → tally x (insert rs i r) ≡ tally x (r ∷ rs)
tally_inserted x rs i r = omega (arith, tally_append x (take i rs) (r ∷ drop i rs), tally_append x (take i rs) (drop i rs), ap (λ y. tally x y) (take-append-drop i rs))

pub tally_removed : (x : ℕ) (rs : List ℕ) (i r : ℕ) → At rs i r → tally x rs ≡ tally x (r ∷ remove rs i)
tally_removed x rs i r a =
    let c = ap (λ y. tally x y) (drop-cons rs i r a.0) in
    omega (arith, c, ap (λ y. mark x y) a.1, tally_append x (take i rs) (drop (suc i) rs), tally_append x (take i rs) (drop i rs), ap (λ y. tally x y) (take-append-drop i rs))

pub stands : (r : ℕ) (rs : List ℕ) → 0 < tally r rs → (i : ℕ) × At rs i r
stands r [] h = absurd (omega arith)
stands r (q ∷ rs) h =
    ⊎_elim
    (λ (e : r ≡ q). (0, (omega arith, sym e)))
    (λ (ne : r ≢ q). let s = stands r rs (omega (arith, mark_other r q ne)) in (suc s.0, (omega (arith, s.1.0), s.1.1)))
    (cases_eq r q)

pub stands_some : (r : ℕ) (rs : List ℕ) (i : ℕ) → At rs i r → 0 < tally r rs
stands_some r [] i a = absurd (omega (arith, a.0))
stands_some r (q ∷ rs) zero a = omega (arith, mark_same r, ap (λ x. mark r x) a.1)
stands_some r (q ∷ rs) (suc i) a = omega (arith, stands_some r rs i (omega (arith, a.0), a.1))

-- rows of the links as rows of the index
pub lower_inserted : (os : List ℕ) (i x : ℕ) → lower (insert os i x) ≡ insert (lower os) i (x - 1)
lower_inserted os zero x = refl
lower_inserted [] (suc i) x = refl
lower_inserted (o ∷ os) (suc i) x = ap (λ y. (o - 1) ∷ y) (lower_inserted os i x)

pub lower_removed : (os : List ℕ) (i : ℕ) → lower (remove os i) ≡ remove (lower os) i
lower_removed [] zero = refl
lower_removed (o ∷ os) zero = refl
lower_removed [] (suc i) = refl
lower_removed (o ∷ os) (suc i) = ap (λ y. (o - 1) ∷ y) (lower_removed os i)

pub lower_at : (os : List ℕ) (i : ℕ) → get_or (lower os) i 0 ≡ get_or os i 0 - 1
lower_at os i = get_or-map (λ (r : ℕ). r - 1) os i 0

pub length_lower : (os : List ℕ) → length (lower os) ≡ length os
length_lower os = length-map os (λ (r : ℕ). r - 1)

pub lower_below : (n : ℕ) (P : ℕ → Type 0) (os : List ℕ) → ((r : ℕ) → P r → (0 < r) × (r < n + 1)) → Each P os → Below n (lower os)
lower_below n P [] f e = tt
lower_below n P (o ∷ os) f e = let q = f o e.0 in (omega (arith, q.0, q.1), lower_below n P os f e.1)

-- a row that is not in use is not in the order
pub not_in : (r : ℕ) (os : List ℕ) → tally r (lower os) ≡ 0 → Each (λ x. x ≢ r + 1) os
not_in r [] h = tt
not_in r (o ∷ os) h = (
  (λ (e : o ≡ r + 1). let s : r ≡ o - 1 = omega arith in omega (arith, mark_same r, ap (λ x. mark r x) s)),
  not_in r os (omega arith),
)
