-- What the reader has read, by its state.
use Rattle.std.proofs.Common.{◌≡◌, ℕ, ◌+◌, ◌-◌, ◌*◌, ◌/◌, ◌%◌, ◌^◌, ◌<◌, ◌≤◌, true, false, cond, eqb, ltb, List, [], ◌∷◌, ◌++◌, decimal, refl, ◌∙◌, append_assoc, append-nil, arith, ltb-false, ltb-true, le-ltb, lt-ltb, ne_eqb, eqb-true}
use borrow.Author.Tests.{eqb-false}
use Rattle.std.proofs.lemmas.Bool.{cond_both}
use Rattle.std.proofs.lemmas.Fmt.{decimal_digit, decimal_step, decimal_by_steps}
use Rattle.line.specs.Grammar.{Capitals as Rises, Rising}
use Rattle.line.specs.States.{classed, moved, stepped, walked}
use Rattle.line.specs.declared.field.Class.{Class}
use Rattle.line.specs.declared.field.Class.TheVariants.{Space, Digit, Capital, Other}
use Rattle.line.specs.declared.field.State.{State}
use Rattle.line.specs.declared.field.State.TheVariants.{Number, Zero, Digits, Capitals, Risen, Byte, One, Bad}
use Rattle.line.proofs.Walks.{walked_append}

-- the byte b is of this class
abbrev pub Is : Class → ℕ → Type 0
Is Space b = b ≡ 32
Is (Digit d) b = (b ≡ 48 + d) × (d < 10)
Is Capital b = (65 ≤ b) × (b ≤ 90)
Is Other b = b ≡ 32 → ⊥

pub class_is : (b : ℕ) → Is (classed b) b
class_is b =
    cond_both (eqb b 32) _ _ (λ k. Is k b) (λ e. eqb-true b 32 e) (λ e.
    cond_both (ltb b 48) _ _ (λ k. Is k b) (λ _. eqb-false b 32 e) (λ f.
    cond_both (ltb b 58) _ _ (λ k. Is k b) (λ g. (omega (arith, ltb-false b 48 f), omega (arith, ltb-true b 58 g, ltb-false b 48 f))) (λ _.
    cond_both (ltb b 65) _ _ (λ k. Is k b) (λ _. eqb-false b 32 e) (λ g.
    cond_both (ltb b 91) _ _ (λ k. Is k b) (λ h. (ltb-false b 65 g, omega (arith, ltb-true b 91 h))) (λ _. eqb-false b 32 e)))))

-- rising capitals above low, the last of them k
abbrev pub RisingTo : ℕ → List ℕ → ℕ → Type 0
RisingTo low [] k = low ≡ k
RisingTo low (b ∷ bs) k = (low < b) × (b ≤ 90) × RisingTo b bs k

-- the text w leads to the state
abbrev pub Held : State → List ℕ → Type 0
Held Number w = w ≡ []
Held Zero w = w ≡ 48 ∷ []
Held (Digits n) w = (w ≡ decimal n) × (0 < n) × (n < 2 ^ 16)
Held Capitals w = w ≡ []
Held (Risen a) w = RisingTo 64 w a × (64 < a)
Held Byte w = w ≡ []
Held (One b) w = (w ≡ b ∷ []) × (b ≡ 32 → ⊥)
Held Bad w = Unit {0}

-- one capital more
rise_more : (low : ℕ) (w : List ℕ) (a b : ℕ) → RisingTo low w a → a < b → b ≤ 90 → RisingTo low (w ++ (b ∷ [])) b
rise_more low [] a b h l m = (omega (arith, h), m, refl)
rise_more low (c ∷ w) a b h l m = (h.0, h.1, rise_more c w a b h.2 l m)

decimal_more : (n d : ℕ) → 0 < n → n < 2 ^ 16 → d < 10 → decimal (n * 10 + d) ≡ decimal n ++ ((48 + d) ∷ [])
decimal_more n d p q r =
    let e : (n * 10 + d) / 10 ≡ n = omega arith in
    let f : (n * 10 + d) % 10 ≡ d = omega arith in
    rw (decimal_step (n * 10 + d) (omega arith) (omega arith), e, f)

by_class : (k : Class) (s : State) (w : List ℕ) (b : ℕ) → Is k b → Held s w → Held (moved k s b) (w ++ (b ∷ []))
by_class Space s w b i h = tt
by_class (Digit d) Number w b i h = cond_both (eqb d 0) Zero (Digits d) (λ t. Held t (w ++ (b ∷ []))) (λ e. rw (h, i.0, eqb-true d 0 e)) (λ e. (rw (h, i.0, decimal_digit d i.1), omega (arith, eqb-false d 0 e, i.1), omega (arith, i.1)))
by_class (Digit d) Zero w b i h = tt
by_class (Digit d) (Digits n) w b i h = cond_both (ltb (n * 10 + d) (2 ^ 16)) (Digits (n * 10 + d)) Bad (λ t. Held t (w ++ (b ∷ []))) (λ e. (rw (h.0, i.0, decimal_more n d h.1 h.2 i.1), omega (arith, h.1), ltb-true _ _ e)) (λ _. tt)
by_class (Digit d) Capitals w b i h = tt
by_class (Digit d) (Risen a) w b i h = tt
by_class (Digit d) Byte w b i h = (rw h, omega (arith, i.0))
by_class (Digit d) (One a) w b i h = tt
by_class (Digit d) Bad w b i h = tt
by_class Capital Number w b i h = tt
by_class Capital Zero w b i h = tt
by_class Capital (Digits n) w b i h = tt
by_class Capital Capitals w b i h = (rw h (omega (arith, i.0), i.1, refl), omega (arith, i.0))
by_class Capital (Risen a) w b i h =
    cond_both (ltb a b) (Risen b) Bad (λ t. Held t (w ++ (b ∷ [])))
    (λ e. (rise_more 64 w a b h.0 (ltb-true a b e) i.1, omega (arith, i.0)))
    (λ _. tt)
by_class Capital Byte w b i h = (rw h, omega (arith, i.0))
by_class Capital (One a) w b i h = tt
by_class Capital Bad w b i h = tt
by_class Other Number w b i h = tt
by_class Other Zero w b i h = tt
by_class Other (Digits n) w b i h = tt
by_class Other Capitals w b i h = tt
by_class Other (Risen a) w b i h = tt
by_class Other Byte w b i h = (rw h, i)
by_class Other (One a) w b i h = tt
by_class Other Bad w b i h = tt

pub holds : (s : State) (v w : List ℕ) → Held s v → Held (walked s w) (v ++ w)
holds s v [] h = rw append-nil h
holds s v (b ∷ w) h = rw (← append_assoc v (b ∷ []) w) (holds (stepped s b) (v ++ (b ∷ [])) w (by_class (classed b) s v b (class_is b) h))

-- the other way: what a field's text leads to

classed_digit : (d : ℕ) → d < 10 → classed (48 + d) ≡ Digit d
classed_digit d h =
    let a : eqb (48 + d) 32 ≡ false = ne_eqb _ _ (omega arith) in
    let b : ltb (48 + d) 48 ≡ false = le-ltb _ _ (omega arith) in
    let c : ltb (48 + d) 58 ≡ true = lt-ltb _ _ (omega arith) in
    let e : (48 + d) - 48 ≡ d = omega arith in
    rw (a, b, c, e)

classed_capital : (b : ℕ) → 65 ≤ b → b ≤ 90 → classed b ≡ Capital
classed_capital b l m =
    let e : eqb b 32 ≡ false = ne_eqb _ _ (omega arith) in
    let f : ltb b 48 ≡ false = le-ltb _ _ (omega arith) in
    let g : ltb b 58 ≡ false = le-ltb _ _ (omega arith) in
    let h : ltb b 65 ≡ false = le-ltb _ _ (omega arith) in
    let k : ltb b 91 ≡ true = lt-ltb _ _ (omega arith) in
    rw (e, f, g, h, k)

abbrev pub numbered : ℕ → State
numbered n = cond (eqb n 0) Zero (Digits n)

pub walk_decimal : (n : ℕ) → n < 2 ^ 16 → walked Number (decimal n) ≡ numbered n
walk_decimal n h =
    decimal_by_steps (λ n ds. n < 2 ^ 16 → walked Number ds ≡ numbered n)
    (λ n l _. rw (classed_digit n l))
    (λ n ds l ih m.
    let a : n / 10 < 2 ^ 16 = omega arith in
    let z : eqb (n / 10) 0 ≡ false = ne_eqb _ _ (omega arith) in
    let y : eqb n 0 ≡ false = ne_eqb _ _ (omega arith) in
    let e : n / 10 * 10 + n % 10 ≡ n = omega arith in
    let t : ltb n (2 ^ 16) ≡ true = lt-ltb _ _ m in
    walked_append Number ds ((48 + n % 10) ∷ []) ∙ rw (ih a, z, classed_digit (n % 10) (omega arith), e, t, y))
    n (omega arith) h

walk_rising : (a : ℕ) (w : List ℕ) → 64 ≤ a → Rising a w → (k : ℕ) × (walked (Risen a) w ≡ Risen k)
walk_rising a [] l h = (a, refl)
walk_rising a (b ∷ w) l h =
    let c = classed_capital b (omega (arith, h.0)) h.1 in
    let t = lt-ltb a b h.0 in
    let r = walk_rising b w (omega (arith, h.0)) h.2 in
    (r.0, rw (c, t) r.1)

pub walk_capitals : (w : List ℕ) → Rises w → (k : ℕ) × (walked Capitals w ≡ Risen k)
walk_capitals [] h = absurd (omega (arith, h.0))
walk_capitals (b ∷ w) h =
    let c = classed_capital b (omega (arith, h.1.0)) h.1.1 in
    let r = walk_rising b w (omega (arith, h.1.0)) h.1.2 in
    (r.0, rw c r.1)

rising_from : (low : ℕ) (w : List ℕ) (k : ℕ) → RisingTo low w k → Rising low w
rising_from low [] k h = tt
rising_from low (b ∷ w) k h = (h.0, h.1, rising_from b w k h.2)

pub rises_from : (w : List ℕ) (k : ℕ) → RisingTo 64 w k → 64 < k → Rises w
rises_from [] k h l = absurd (omega (arith, h))
rises_from (b ∷ w) k h l = (omega arith, rising_from 64 (b ∷ w) k h)

pub walk_mark : (b : ℕ) (k : Class) → Is k b → (b ≡ 32 → ⊥) → moved k Byte b ≡ One b
walk_mark b Space i n = absurd (n i)
walk_mark b (Digit d) i n = refl
walk_mark b Capital i n = refl
walk_mark b Other i n = refl
