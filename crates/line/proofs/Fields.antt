-- What a field says, read and unread.
use Rattle.std.proofs.Common.{◌≡◌, ℕ, true, false, eqb, List, [], ◌∷◌, Some, None, decimal, Option, sym, refl, ap, ◌∙◌, subst, ⊎_elim, arith, eqb-true}
use Rattle.std.proofs.lemmas.Fmt.{decimal_digit}
use Rattle.std.proofs.lemmas.Option.{none-some}
use Rattle.std.proofs.lemmas.Bool.{cases_Bool, cond_both}
use Rattle.line.specs.Grammar.{Capitals as Rises, Mark, Short}
use Rattle.line.specs.Lines.{a_capitals, a_mark, a_number, capitals_of, ended, field, mark_of, next, number_of}
use Rattle.line.specs.States.{classed, walked}
use Rattle.line.specs.Words.{word, fields}
use Rattle.line.specs.declared.field.State.{State}
use Rattle.line.specs.declared.field.State.TheVariants.{Number, Zero, Digits, Capitals, Risen, Byte, One, Bad}
use Rattle.line.proofs.Held.{Held, class_is, holds, rises_from, walk_capitals, walk_decimal, walk_mark}
use Rattle.line.proofs.Walks.{word_rest, fields_rest}

-- the word w stands after the space at x
pub record Stands (x w : List ℕ) : Type 0 where
  pub at : word x ≡ []
  pub fields : fields x ≡ w ∷ fields (next x)
  pub next : word (next x) ≡ []

stood : (s : State) (x : List ℕ) → (ended s x ≡ Bad → ⊥) → (w : List ℕ) × Stands x w × (ended s x ≡ walked s w)
stood s [] n = absurd (n refl)
stood s (b ∷ bs) n =
    ⊎_elim
    (λ (e : eqb b 32 ≡ true). (word bs, record { at = simp e; fields = simp (e, fields_rest); next = simp (e, word_rest) }, simp e))
    (λ (e : eqb b 32 ≡ false). absurd (n (simp e)))
    (cases_Bool (eqb b 32))

stands : (s : State) (x w : List ℕ) (fs : List (List ℕ)) → word x ≡ [] → fields x ≡ w ∷ fs → (ended s x ≡ walked s w) × (fields (next x) ≡ fs) × (word (next x) ≡ [])
stands s [] w fs h e = let z : ◌≡◌ {A = ℕ} 0 1 = cc in absurd (omega (arith, z))
stands s (b ∷ bs) w fs h e =
    ⊎_elim
    (λ (q : eqb b 32 ≡ true). let m : word bs ∷ fields bs ≡ w ∷ fs = simp q at e in let u : word bs ≡ w = cc in let v : fields bs ≡ fs = cc in
    (simp q (ap (walked s) u), simp (q, fields_rest) v, simp (q, word_rest)))
    (λ (q : eqb b 32 ≡ false). let m : b ∷ word bs ≡ [] = simp q at h in let z : ◌≡◌ {A = ℕ} 0 1 = cc in absurd (omega (arith, z)))
    (cases_Bool (eqb b 32))

field_at : (x w : List ℕ) (fs : List (List ℕ)) → word x ≡ [] → fields x ≡ w ∷ fs → field x ≡ w
field_at [] w fs h e = let z : ◌≡◌ {A = ℕ} 0 1 = cc in absurd (omega (arith, z))
field_at (b ∷ bs) w fs h e =
    ⊎_elim
    (λ (q : eqb b 32 ≡ true). let m : word bs ∷ fields bs ≡ w ∷ fs = simp q at e in cc)
    (λ (q : eqb b 32 ≡ false). let m : b ∷ word bs ≡ [] = simp q at h in let z : ◌≡◌ {A = ℕ} 0 1 = cc in absurd (omega (arith, z)))
    (cases_Bool (eqb b 32))

-- what was read, by the state at its end
kept_number : (q : State) (w : List ℕ) (n : ℕ) → Held q w → number_of q ≡ Some n → (w ≡ decimal n) × Short n
kept_number Zero w n h e = let z : n ≡ 0 = cc in (h ∙ sym (decimal_digit 0 (omega arith)) ∙ ap decimal (sym z), omega (arith, z))
kept_number (Digits m) w n h e = let z : m ≡ n = cc in (h.0 ∙ ap decimal z, omega (arith, z, h.2))
kept_number Number w n h e = absurd (none-some _ e)
kept_number Capitals w n h e = absurd (none-some _ e)
kept_number (Risen s) w n h e = absurd (none-some _ e)
kept_number Byte w n h e = absurd (none-some _ e)
kept_number (One b) w n h e = absurd (none-some _ e)
kept_number Bad w n h e = absurd (none-some _ e)

not_none : {A B : Type 0} (f : A → Option B) (q p : A) (x : B) → f q ≡ Some x → f p ≡ None → q ≡ p → ⊥
not_none f q p x e n s = none-some x (sym n ∙ ap f (sym s) ∙ e)

pub number_said : (x : List ℕ) (n : ℕ) → a_number x ≡ Some n → Stands x (decimal n) × Short n
unfolding a_number
number_said x n e =
    let t = stood Number x (not_none number_of _ Bad n e refl) in
    let k = kept_number (ended Number x) t.0 n (subst (λ (q : State). Held q t.0) (sym t.2) (holds Number [] t.0 refl)) e in
    (subst (λ (w : List ℕ). Stands x w) k.0 t.1, k.1)

pub number_read : (x : List ℕ) (n : ℕ) (fs : List (List ℕ)) → Short n → word x ≡ [] → fields x ≡ decimal n ∷ fs → (a_number x ≡ Some n) × (fields (next x) ≡ fs) × (word (next x) ≡ [])
unfolding a_number
number_read x n fs h w e =
    let t = stands Number x (decimal n) fs w e in
    (ap number_of (t.0 ∙ walk_decimal n h) ∙ cond_both (eqb n 0) Zero (Digits n) (λ (q : State). number_of q ≡ Some n) (λ z. ap (λ m. Some m) (sym (eqb-true n 0 z))) (λ _. refl), t.1, t.2)

kept_capitals : (q : State) (w x : List ℕ) → Held q w → capitals_of q w ≡ Some x → (w ≡ x) × Rises x
kept_capitals Number w x h e = absurd (none-some _ e)
kept_capitals Zero w x h e = absurd (none-some _ e)
kept_capitals (Digits n) w x h e = absurd (none-some _ e)
kept_capitals Capitals w x h e = absurd (none-some _ e)
kept_capitals Byte w x h e = absurd (none-some _ e)
kept_capitals (One b) w x h e = absurd (none-some _ e)
kept_capitals Bad w x h e = absurd (none-some _ e)
kept_capitals (Risen m) w x h e = let z : w ≡ x = cc in (z, subst Rises z (rises_from w m h.0 h.1))

kept_mark : (q : State) (w : List ℕ) (x : ℕ) → Held q w → mark_of q ≡ Some x → (w ≡ x ∷ []) × Mark x
kept_mark Number w x h e = absurd (none-some _ e)
kept_mark Zero w x h e = absurd (none-some _ e)
kept_mark (Digits n) w x h e = absurd (none-some _ e)
kept_mark Capitals w x h e = absurd (none-some _ e)
kept_mark (Risen m) w x h e = absurd (none-some _ e)
kept_mark Byte w x h e = absurd (none-some _ e)
kept_mark (One m) w x h e = let z : m ≡ x = cc in subst (λ y. (w ≡ y ∷ []) × Mark y) z (h.0, h.1)
kept_mark Bad w x h e = absurd (none-some _ e)

pub capitals_said : (x w : List ℕ) → a_capitals x ≡ Some w → Stands x w × Rises w
unfolding a_capitals
capitals_said x w e =
    let n : ended Capitals x ≡ Bad → ⊥ = not_none (λ (q : State). capitals_of q (field x)) _ Bad w e refl in
    let t = stood Capitals x n in
    let f = field_at x t.0 (fields (next x)) t.1.at t.1.fields in
    let k = kept_capitals (ended Capitals x) t.0 w (subst (λ (q : State). Held q t.0) (sym t.2) (holds Capitals [] t.0 refl)) (ap (capitals_of (ended Capitals x)) (sym f) ∙ e) in
    (subst (λ (v : List ℕ). Stands x v) k.0 t.1, k.1)

pub capitals_read : (x w : List ℕ) (fs : List (List ℕ)) → Rises w → word x ≡ [] → fields x ≡ w ∷ fs → (a_capitals x ≡ Some w) × (fields (next x) ≡ fs) × (word (next x) ≡ [])
unfolding a_capitals
capitals_read x w fs h v e =
    let t = stands Capitals x w fs v e in
    let k = walk_capitals w h in
    (ap (λ (q : State). capitals_of q (field x)) (t.0 ∙ k.1) ∙ ap (λ (u : List ℕ). Some u) (field_at x w fs v e), t.1, t.2)

pub mark_said : (x : List ℕ) (n : ℕ) → a_mark x ≡ Some n → Stands x (n ∷ []) × Mark n
unfolding a_mark
mark_said x n e =
    let t = stood Byte x (not_none mark_of _ Bad n e refl) in
    let k = kept_mark (ended Byte x) t.0 n (subst (λ (q : State). Held q t.0) (sym t.2) (holds Byte [] t.0 refl)) e in
    (subst (λ (w : List ℕ). Stands x w) k.0 t.1, k.1)

pub mark_read : (x : List ℕ) (n : ℕ) (fs : List (List ℕ)) → Mark n → word x ≡ [] → fields x ≡ (n ∷ []) ∷ fs → (a_mark x ≡ Some n) × (fields (next x) ≡ fs) × (word (next x) ≡ [])
unfolding a_mark
mark_read x n fs h w e =
    let t = stands Byte x (n ∷ []) fs w e in
    (ap mark_of (t.0 ∙ walk_mark n (classed n) (class_is n) h), t.1, t.2)
