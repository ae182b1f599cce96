-- The reader's walk over a word, and the words of a line.
use Rattle.std.proofs.Common.{◌≡◌, ℕ, true, false, eqb, List, [], ◌∷◌, ◌++◌, refl, ap, ⊎_elim}
use Rattle.std.proofs.lemmas.Bool.{cases_Bool}
use Rattle.line.specs.Words.{word, rest, fields}
use Rattle.line.specs.States.{stepped, walked}
use Rattle.line.specs.declared.field.State.{State}

pub word_rest : (xs : List ℕ) → word (rest xs) ≡ []
word_rest [] = refl
word_rest (b ∷ bs) = ⊎_elim (λ (t : eqb b 32 ≡ true). simp t) (λ (t : eqb b 32 ≡ false). simp t (word_rest bs)) (cases_Bool (eqb b 32))

pub fields_rest : (xs : List ℕ) → fields (rest xs) ≡ fields xs
fields_rest [] = refl
fields_rest (b ∷ bs) = ⊎_elim (λ (t : eqb b 32 ≡ true). simp t) (λ (t : eqb b 32 ≡ false). simp t (fields_rest bs)) (cases_Bool (eqb b 32))

pub word_and_rest : (xs : List ℕ) → xs ≡ word xs ++ rest xs
word_and_rest [] = refl
word_and_rest (b ∷ bs) = ⊎_elim (λ (t : eqb b 32 ≡ true). simp t) (λ (t : eqb b 32 ≡ false). simp t (ap (λ (l : List ℕ). b ∷ l) (word_and_rest bs))) (cases_Bool (eqb b 32))

pub walked_append : (s : State) (v w : List ℕ) → walked s (v ++ w) ≡ walked (walked s v) w
walked_append s [] w = refl
walked_append s (b ∷ v) w = walked_append (stepped s b) v w
