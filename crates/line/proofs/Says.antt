-- A line is its words with one space between them.
use Rattle.std.proofs.Common.{◌≡◌, ℕ, ◌<◌, true, false, eqb, List, [], ◌∷◌, ◌++◌, length, get_or, decimal, sym, refl, ap, ◌∙◌, ⊎_elim, arith, ne_eqb, eqb-true}
use Rattle.std.proofs.lemmas.Slice.{first_rest}
use Rattle.std.specs.List.{between, AllByRecursion as All}
use Rattle.std.proofs.lemmas.Bool.{cases_Bool, cond_both}
use Rattle.line.specs.Grammar.{Asked, Capitals as Rises, Lawful, Short, adding, dropping, joining, letter, listing, moving, sending, spelt, written}
use Rattle.line.specs.declared.field.Class.{Class}
use Rattle.line.specs.declared.field.Class.TheVariants.{Space, Digit, Capital, Other}
use Rattle.line.specs.States.{classed, moved, stepped, walked}
use Rattle.line.specs.Words.{word, fields, spread}
use Rattle.line.specs.declared.field.State.{State}
use Rattle.line.specs.declared.field.State.TheVariants.{Number, Zero, Digits, Capitals, Bad}
use Rattle.line.proofs.Held.{walk_capitals, walk_decimal}

-- no space stands in w
abbrev Clean : List ℕ → Type 0
Clean w = All (λ b. b ≡ 32 → ⊥) w

stays_bad : (k : Class) (b : ℕ) → moved k Bad b ≡ Bad
stays_bad Space b = refl
stays_bad (Digit d) b = refl
stays_bad Capital b = refl
stays_bad Other b = refl

walked_bad : (w : List ℕ) → walked Bad w ≡ Bad
walked_bad [] = refl
walked_bad (b ∷ w) = ap (λ (s : State). walked s w) (stays_bad (classed b) b) ∙ walked_bad w

-- what leads to a good state has no space
clean : (s : State) (w : List ℕ) → (walked s w ≡ Bad → ⊥) → Clean w
clean s [] n = tt
clean s (b ∷ w) n = ((λ e. n (ap (λ (c : ℕ). walked (stepped s c) w) e ∙ walked_bad w)), clean (stepped s b) w n)

pub whole : (xs : List ℕ) → xs ≡ word xs ++ spread (fields xs)
whole [] = refl
whole (b ∷ bs) = ⊎_elim (λ (t : eqb b 32 ≡ true). simp t (ap (λ (c : ℕ). c ∷ bs) (eqb-true b 32 t) ∙ ap (λ (l : List ℕ). 32 ∷ l) (whole bs))) (λ (t : eqb b 32 ≡ false). simp t (ap (λ (l : List ℕ). b ∷ l) (whole bs))) (cases_Bool (eqb b 32))

word_spread : (ws : List (List ℕ)) → word (spread ws) ≡ []
word_spread [] = refl
word_spread (w ∷ ws) = refl

parts : (w : List ℕ) (ws : List (List ℕ)) → Clean w → (word (w ++ spread ws) ≡ w) × (fields (w ++ spread ws) ≡ fields (spread ws))
parts [] ws c = (word_spread ws, refl)
parts (b ∷ w) ws c = let t = ne_eqb b 32 c.0 in let p = parts w ws c.1 in (rw t (ap (λ (l : List ℕ). b ∷ l) p.0), rw t p.1)

fields_spread : (ws : List (List ℕ)) → All Clean ws → fields (spread ws) ≡ ws
fields_spread [] c = refl
fields_spread (w ∷ ws) c = let p = parts w ws c.0 in rw (p.0, p.1) (ap (λ (l : List (List ℕ)). w ∷ l) (fields_spread ws c.1))

clean_number : (n : ℕ) → Short n → Clean (decimal n)
clean_number n h = clean Number (decimal n) (λ e. cond_both (eqb n 0) Zero (Digits n) (λ (q : State). q ≡ Bad → ⊥) (λ _ f. let z : ◌≡◌ {A = ℕ} 0 1 = cc in omega arith) (λ _ f. let z : ◌≡◌ {A = ℕ} 0 1 = cc in omega arith) (sym (walk_decimal n h) ∙ e))

clean_capitals : (w : List ℕ) → Rises w → Clean w
clean_capitals w h = let k = walk_capitals w h in clean Capitals w (λ e. let q = k.1 in let z : ◌≡◌ {A = ℕ} 0 1 = cc in omega arith)

clean_spelt : (c : Asked) → Lawful c → All Clean (spelt c)
clean_spelt (adding a) h = (clean_number _ h.0, (clean_number _ h.1, (clean_number _ h.2, (clean_number _ h.3, (clean_capitals _ h.4, (clean_number _ h.5, tt))))))
clean_spelt (dropping n) h = (clean_number n h, tt)
clean_spelt (moving n p) h = (clean_number n h.0, (clean_number p h.1, tt))
clean_spelt (joining tag) h = ((h.0, tt), (clean_number _ h.1, tt))
clean_spelt (sending t) h = (clean_number t h, tt)
clean_spelt listing h = tt

-- the letter and what is left after it say c
pub record Found (l : ℕ) (left : List ℕ) (c : Asked) : Type 0 where
  pub letter : l ≡ letter c
  pub at : word left ≡ []
  pub fields : fields left ≡ spelt c
  pub lawful : Lawful c

pub found : (l : ℕ) (left : List ℕ) (c : Asked) → Lawful c × (l ∷ left ≡ written c) → Found l left c
found l left c s =
    let e : left ≡ spread (spelt c) = cc s.1 in
    record { letter = cc s.1; at = rw e (word_spread (spelt c)); fields = rw e (fields_spread (spelt c) (clean_spelt c s.0)); lawful = s.0 }

pub says : (l : ℕ) (left : List ℕ) (c : Asked) → Found l left c → Lawful c × (l ∷ left ≡ written c)
says l left c f =
    let e : left ≡ spread (spelt c) = whole left ∙ (λ i. f.at i ++ spread (f.fields i)) in
    (f.lawful, λ i. f.letter i ∷ e i)

-- what is left over after the last field
pub at_end : (xs : List ℕ) → word xs ≡ [] → fields xs ≡ [] → xs ≡ []
at_end xs w f = whole xs ∙ (λ i. w i ++ spread (f i))

module _ (xs : List ℕ) (some : 0 < length xs) where
  -- what is left after the letter
  abbrev pub left : List ℕ
  left = between 1 (length xs) xs

  pub says_at : (c : Asked) → Found (get_or xs 0 0) left c → Lawful c × (xs ≡ written c)
  says_at c f = rw (first_rest xs 0 some) (says (get_or xs 0 0) left c f)

  pub found_at : (c : Asked) → Lawful c × (xs ≡ written c) → Found (get_or xs 0 0) left c
  found_at c s = found (get_or xs 0 0) left c (rw (first_rest xs 0 some) at s)
