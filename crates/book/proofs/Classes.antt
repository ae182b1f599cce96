-- A set of letters, one more letter at a time.
use Rattle.std.proofs.Common.{◌≡◌, ℕ, ◌+◌, ◌-◌, ◌<◌, Bool, true, false, ◌⊎◌, List, length, get_or, set, replicate, sym, ap, ◌∙◌, subst, inl, inr, ⊎_elim, arith}
use Rattle.std.proofs.lemmas.List.{get_or_default, get_or-set_same, get_or-set_other, get_or-replicate, get_or_past, length-replicate}
use Rattle.std.proofs.lemmas.Bool.{cases_eq}
use Rattle.order.specs.Order.{At, Stands}
use Rattle.book.specs.Rules.{Holds, Letter}
use Rattle.book.proofs.Places.{at_same, below_or_at, below_or_past}

pub holds_none : (size c : ℕ) → Holds (replicate size false) c → ⊥
holds_none size c (low, held) =
    let z : ◌≡◌ {A = Bool} false true = sym (⊎_elim (λ lt. get_or-replicate size (c - 65) false false lt)
    (λ le. get_or_past (replicate size false) (c - 65) false (simp length-replicate le)) (below_or_past (c - 65) size)) ∙ held in
    let y : ◌≡◌ {A = ℕ} 0 1 = cc in omega arith

-- a letter that was put in is held, and so is one that was held before
pub holds_new : (s : List Bool) (c : ℕ) → length s ≡ 26 → Letter c → Holds (set s (c - 65) true) c
holds_new s c len letter = (letter.0, get_or-set_same s (c - 65) true false (omega arith))

pub holds_on : (s : List Bool) (n c : ℕ) → length s ≡ 26 → Letter n → Holds s c → Holds (set s (n - 65) true) c
holds_on s n c len letter held =
    ⊎_elim (λ e. (held.0, ap (λ (k : ℕ). get_or (set s (n - 65) true) k false) e ∙ get_or-set_same s (n - 65) true false (omega arith)))
    (λ ne. (held.0, get_or-set_other s (n - 65) (c - 65) true false ne ∙ held.1)) (cases_eq (c - 65) (n - 65))

-- what is held was put in just now, or held before
pub holds_by : (s : List Bool) (n c : ℕ) → Letter n → Holds (set s (n - 65) true) c → (c ≡ n) ⊎ Holds s c
holds_by s n c letter held =
    ⊎_elim (λ e. inl (omega arith))
    (λ ne. inr (held.0, sym (get_or-set_other s (n - 65) (c - 65) true false ne) ∙ held.1)) (cases_eq (c - 65) (n - 65))

pub at_item : (xs : List ℕ) (i : ℕ) → i < length xs → At xs i (get_or xs i 0)
at_item xs i lt = (lt, get_or_default xs i (get_or xs i 0) 0 lt)

-- the item at i of a list is passed
pub named_more : (classes : List ℕ) (s : List Bool) (i : ℕ) → length s ≡ 26 → i < length classes → Letter (get_or classes i 0)
    → ((j c : ℕ) → j < i → At classes j c → Letter c × Holds s c)
    → (j c : ℕ) → j < i + 1 → At classes j c → Letter c × Holds (set s (get_or classes i 0 - 65) true) c
named_more classes s i len lt letter before j c below at =
    ⊎_elim (λ l. let b = before j c l at in (b.0, holds_on s (get_or classes i 0) c len letter b.1))
    (λ e. let q = at_same classes i (get_or classes i 0) c (at_item classes i lt) (subst (λ (k : ℕ). At classes k c) e at) in
    subst (λ (k : ℕ). Letter k × Holds (set s (get_or classes i 0 - 65) true) k) q (letter, holds_new s (get_or classes i 0) len letter))
    (below_or_at j i below)

pub held_more : (classes : List ℕ) (s : List Bool) (i : ℕ) → i < length classes → Letter (get_or classes i 0)
    → ((c : ℕ) → Holds s c → Stands classes c)
    → (c : ℕ) → Holds (set s (get_or classes i 0 - 65) true) c → Stands classes c
held_more classes s i lt letter before c held =
    ⊎_elim (λ e. subst (Stands classes) (sym e) (i, at_item classes i lt)) (before c) (holds_by s (get_or classes i 0) c letter held)

-- the set of a list that names a class is not empty
pub some_held : (classes : List ℕ) (s : List Bool) → 0 < length classes
    → ((i c : ℕ) → At classes i c → Letter c × Holds s c) → ((i : ℕ) → get_or s i false ≡ false) → ⊥
some_held classes s lt named none =
    let held = (named 0 (get_or classes 0 0) (at_item classes 0 lt)).1.1 in
    let not-held = none (get_or classes 0 0 - 65) in
    let z : ◌≡◌ {A = ℕ} 0 1 = cc in omega arith
