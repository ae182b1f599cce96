-- A field's bytes as a part of the line.
use Rattle.std.proofs.Common.{◌≡◌, ℕ, ◌+◌, ◌-◌, true, false, eqb, List, [], ◌∷◌, length, take, drop, Some, None, sym, refl, ap, ◌∙◌, ⊎_elim, arith, length-append}
use lib.Seq.{take-append-le, take-length}
use Rattle.std.proofs.lemmas.Bool.{cases_Bool}
use Rattle.line.specs.Lines.{a_capitals, capitals_of, ended, field, next}
use Rattle.line.specs.Words.{rest, word}
use Rattle.line.specs.declared.field.State.{State}
use Rattle.line.specs.declared.field.State.TheVariants.{Number, Zero, Digits, Capitals, Risen, Byte, One, Bad}
use Rattle.line.proofs.Walks.{word_and_rest}

-- where a field ended well, what is left is shorter by the space and the field
pub part_length : (s : State) (x : List ℕ) → (ended s x ≡ Bad → ⊥) → length x ≡ 1 + (length (field x) + length (next x))
part_length s [] n = absurd (n refl)
part_length s (b ∷ bs) n =
    ⊎_elim
    (λ (e : eqb b 32 ≡ true). simp e (omega (arith, ap length (word_and_rest bs), length-append (word bs) (rest bs))))
    (λ (e : eqb b 32 ≡ false). absurd (n (simp e)))
    (cases_Bool (eqb b 32))

take_word : (bs : List ℕ) → take (length (word bs)) bs ≡ word bs
take_word bs = ap (take (length (word bs))) (word_and_rest bs) ∙ take-append-le (length (word bs)) (word bs) (rest bs) (omega arith) ∙ take-length (word bs)

pub part : (s : State) (x : List ℕ) (m : ℕ) → (ended s x ≡ Bad → ⊥) → m ≡ length (field x) → take m (drop 1 x) ≡ field x
part s [] m n e = absurd (n refl)
part s (b ∷ bs) m n e = ap (λ k. take k bs) e ∙ take_word bs

risen : (q : State) (b : ℕ) → q ≡ Risen b → (q ≡ Bad → ⊥)
risen q b e f = let z : ◌≡◌ {A = ℕ} 0 1 = cc in omega arith

nothing : (w : List ℕ) (q : State) → ((b : ℕ) → q ≡ Risen b → ⊥) → None ≡ capitals_of q w
nothing w Number n = refl
nothing w Zero n = refl
nothing w (Digits d) n = refl
nothing w Capitals n = refl
nothing w (Risen b) n = absurd (n b refl)
nothing w Byte n = refl
nothing w (One b) n = refl
nothing w Bad n = refl

-- the capitals that were read are the bytes between the space and what is left
module _ (x left : List ℕ) (q : State) (end : q ≡ ended Capitals x) (after : left ≡ next x) where
  not_bad : (b : ℕ) → q ≡ Risen b → (ended Capitals x ≡ Bad → ⊥)
  not_bad b e f = risen q b e (end ∙ f)

  pub shorter : (b : ℕ) → q ≡ Risen b → length x ≡ 1 + (length (field x) + length left)
  shorter b e = part_length Capitals x (not_bad b e) ∙ ap (λ (l : List ℕ). 1 + (length (field x) + length l)) (sym after)

  pub capitals_are : (b : ℕ) → q ≡ Risen b → Some (take (length x - length left - 1) (drop 1 x)) ≡ a_capitals x
  unfolding a_capitals
  capitals_are b e =
      ap (λ (w : List ℕ). Some w) (part Capitals x (length x - length left - 1) (not_bad b e) (omega (arith, shorter b e)))
      ∙ ap (λ (t : State). capitals_of t (field x)) (sym e ∙ end)

  pub capitals_none : ((b : ℕ) → q ≡ Risen b → ⊥) → None ≡ a_capitals x
  unfolding a_capitals
  capitals_none n = nothing (field x) q n ∙ ap (λ (t : State). capitals_of t (field x)) end
