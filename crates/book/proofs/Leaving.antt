-- An order without a number is the order without its place, since no number stands twice.
use Rattle.std.proofs.Common.{◌≡◌, ℕ, zero, suc, Bool, false, cond, eqb, List, [], ◌∷◌, refl, ap, ◌∙◌, arith, eq-eqb, ne_eqb}
use Rattle.std.specs.List.{remove}
use Rattle.order.specs.Order.{At, Absent, Distinct}
use Rattle.order.specs.declared.keys.RuleNumber.{RuleNumber}
use Rattle.book.specs.Runs.{leave}

pub numbered : (k : RuleNumber) (n : ℕ) → k.value ≡ n → k ≡ record { value = n }
numbered k n e = ap {B = RuleNumber} (λ (v : ℕ). record { value = v }) e

-- a place further on in a longer list
pub at_later : {A : Type 0} (y : A) (xs : List A) (i : ℕ) (x : A) → At xs i x → At (y ∷ xs) (suc i) x
at_later y xs i x at = (omega arith, at.1)

pub distinct_rest : {A : Type 0} (y : A) (xs : List A) → Distinct (y ∷ xs) → Distinct xs
distinct_rest y xs apart i j x a b =
    let e = apart (suc i) (suc j) x (at_later y xs i x a) (at_later y xs j x b) in omega arith

pub absent_rest : {A : Type 0} (y : A) (xs : List A) (x : A) → Absent (y ∷ xs) x → Absent xs x
absent_rest y xs x absent i at = absent (suc i) (at_later y xs i x at)

leave_absent : (xs : List RuleNumber) (n : ℕ) → Absent xs (record { value = n }) → leave n xs ≡ xs
leave_absent [] n absent = refl
leave_absent (k ∷ ks) n absent =
    let other : eqb k.value n ≡ false = ne_eqb k.value n (λ e. absent 0 (omega arith, numbered k n e)) in
    ap (λ (b : Bool). cond b (leave n ks) (k ∷ leave n ks)) other
    ∙ ap (λ (r : List RuleNumber). k ∷ r) (leave_absent ks n (absent_rest k ks _ absent))

pub leave_is : (xs : List RuleNumber) (i n : ℕ) → Distinct xs → At xs i (record { value = n }) → leave n xs ≡ remove xs i
leave_is [] i n apart (lt, is) = absurd (omega arith)
leave_is (k ∷ ks) zero n apart (lt, is) =
    ap (λ (b : Bool). cond b (leave n ks) (k ∷ leave n ks)) (eq-eqb k.value n (ap (λ (x : RuleNumber). x.value) is))
    ∙ leave_absent ks n (λ j at. let e = apart 0 (suc j) (record { value = n }) (lt, is) (at_later k ks j _ at) in omega arith)
leave_is (k ∷ ks) (suc i) n apart (lt, is) =
    let here : At ks i (record { value = n }) = (omega arith, is) in
    ap (λ (b : Bool). cond b (leave n ks) (k ∷ leave n ks))
    (ne_eqb k.value n (λ e. let z = apart 0 (suc i) (record { value = n }) (omega arith, numbered k n e) (lt, is) in omega arith))
    ∙ ap (λ (r : List RuleNumber). k ∷ r) (leave_is ks i n (distinct_rest k ks apart) here)
