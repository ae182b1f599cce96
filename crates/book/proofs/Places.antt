-- What stands at a place, and what a table of records says.
use Rattle.std.proofs.Common.{◌≡◌, ℕ, ◌+◌, ◌<◌, ◌≤◌, Bool, false, cond, ◌⊎◌, List, [], ◌∷◌, length, drop, set, replicate, is_some, None, Option, sym, ap, ◌∙◌, ⊎_elim, arith, eq-eqb, ne_eqb}
use mathlib.Core.Path.{fun_ext}
use Rattle.std.proofs.lemmas.List.{get_or-set_same, get_or-set_other, get_or_default, get_or_past, get_or-replicate, length-replicate}
use Rattle.std.proofs.lemmas.Bool.{cases_eq}
use Rattle.order.specs.Order.{At, Meaning}
use Rattle.order.specs.declared.keys.RuleNumber.{RuleNumber}
use Rattle.book.specs.declared.rule.Rule.{Rule}
use Rattle.book.specs.Pages.{Pages, recorded, with_rule}

-- one key stands at a place
pub at_same : {A : Type 0} (xs : List A) (i : ℕ) (x y : A) → At xs i x → At xs i y → x ≡ y
at_same xs i x y a b = sym a.1 ∙ get_or_default xs i x y a.0 ∙ b.1

pub below_or_at : (i p : ℕ) → i < p + 1 → (i < p) ⊎ (i ≡ p)
below_or_at i p h = grind arith

pub below_or_past : (i p : ℕ) → (i < p) ⊎ (p ≤ i)
below_or_past i p = grind arith

-- a table of records that were never written, and one with a record written anew
pub none_recorded : (size : ℕ) → recorded (replicate size None) ≡ (λ (_ : ℕ). None)
none_recorded size = fun_ext (λ n.
    ⊎_elim (λ lt. get_or-replicate size n None None lt)
    (λ le. get_or_past (replicate size None) n None (simp length-replicate le)) (below_or_past n size))

-- a table of 256 records has no rule under a number above 255
pub past_recorded : (records : List (Option Rule)) → length records ≡ 256 → (n : ℕ) → 255 < n → is_some (recorded records n) ≡ false
past_recorded records size n high = ap is_some (get_or_past records n None (omega arith))

pub recorded_set : (records : List (Option Rule)) (n : ℕ) (entry : Option Rule) → n < length records
    → recorded (set records n entry) ≡ with_rule n entry (recorded records)
recorded_set records n entry lt = fun_ext (λ k.
    ⊎_elim
    (λ e. ap (recorded (set records n entry)) e ∙ get_or-set_same records n entry None lt ∙ sym (ap (λ (b : Bool). cond b entry (recorded records k)) (eq-eqb k n e)))
    (λ ne. get_or-set_other records n k entry None ne ∙ sym (ap (λ (b : Bool). cond b entry (recorded records k)) (ne_eqb k n ne)))
    (cases_eq k n))

-- a list is what stands at its front, and the rest
pub at_front : {A : Type 0} (xs : List A) (x : A) → At xs 0 x → xs ≡ x ∷ drop 1 xs
at_front [] x (lt, is) = absurd (omega arith)
at_front (y ∷ xs) x (lt, is) = ap (λ (z : _). z ∷ xs) is

-- pages of the same numbers and the same records
pub same_pages : {v w : Meaning RuleNumber} {r s : List (Option Rule)} → w ≡ v → s ≡ r
    → ◌≡◌ {A = Pages} (record { numbers = w; rules = recorded s }) (record { numbers = v; rules = recorded r })
same_pages p q = cc
