-- The count of a link is the difference of two positions.
use Rattle.std.proofs.lemmas.Bool.{cases_Bool}
use Rattle.std.proofs.Common.{◌≡◌, ℕ, zero, suc, ◌+◌, ◌-◌, ◌<◌, ◌≤◌, Bool, cond, ltb, List, [], ◌∷◌, reverse, length, get_or, take, drop, Some, None, Option, sym, refl, ap, ◌∙◌, subst, inl, inr, arith, length-drop}
use mathlib.Core.List.{reverse_aux}
use Rattle.std.proofs.lemmas.List.{get_or-drop, get_or-take, length-take-le}
use Rattle.skip_list.specs.Law.{NamesAhead, NamesBack}
use Rattle.skip_list.specs.Tower.{further, link_ahead, link_back, nearest_key}

module _ {A : Type 0} where
  names_on : (x : A) (xs : List A) (n : ℕ) (o : Option A) → NamesAhead xs n o → NamesAhead (x ∷ xs) (1 + n) o
  names_on x xs n (Some y) a = (omega arith, (omega (arith, a.0, a.1.0), ap (λ (i : ℕ). get_or (x ∷ xs) i y) (let e : 1 + n - 1 ≡ suc (n - 1) = omega (arith, a.0) in e) ∙ a.1.1))
  names_on x xs n None a = omega (arith, a)

  -- the nearest key of a list stands as many places on as the count says
  nearest_names : (l : ℕ) (xs : List A) (vs : List ℕ) → length vs ≡ length xs → NamesAhead xs (nearest_key l xs vs).count (nearest_key l xs vs).key
  nearest_names l [] vs e = refl
  nearest_names l (x ∷ xs) [] e = absurd (omega arith)
  nearest_names l (x ∷ xs) (v ∷ vs) e =
      let more = names_on x xs (nearest_key l xs vs).count (nearest_key l xs vs).key (nearest_names l xs vs (omega arith)) in
      let P : Bool → Type 0 = λ b. NamesAhead (x ∷ xs) (cond b (record { key = Some x; count = 1 }) (further (nearest_key l xs vs))).count (cond b (record { key = Some x; count = 1 }) (further (nearest_key l xs vs))).key in
      elim (cases_Bool (ltb l v)) [
        | inl y ↦ subst P (sym y) (omega arith, (omega arith, refl))
        | inr y ↦ subst P (sym y) more
      ]

  names_drop : (xs : List A) (p n : ℕ) (o : Option A) → p ≤ length xs → NamesAhead (drop p xs) n o → NamesAhead xs (p + n) o
  names_drop xs p n (Some x) le a =
      let q : p + (n - 1) ≡ p + n - 1 = omega (arith, a.0) in
      (omega (arith, a.0), (omega (arith, a.0, a.1.0, length-drop p xs), ap (λ (i : ℕ). get_or xs i x) (sym q) ∙ sym (get_or-drop p xs (n - 1) x) ∙ a.1.1))
  names_drop xs p n None le a = omega (arith, a, length-drop p xs)

  pub ahead_names : (l : ℕ) (xs : List A) (vs : List ℕ) → length vs ≡ length xs → (p : ℕ) → p ≤ length xs → NamesAhead xs (p + (link_ahead xs vs l p).count) (link_ahead xs vs l p).key
  ahead_names l xs vs e p le =
      names_drop xs p _ _ le (nearest_names l (drop p xs) (drop p vs) (length-drop p vs ∙ omega (arith, length-drop p xs)))

  length_reverse : (us zs : List A) → length (reverse_aux us zs) ≡ length us + length zs
  length_reverse [] zs = omega arith
  length_reverse (u ∷ us) zs = omega (arith, length_reverse us (u ∷ zs))

  reverse_past : (us zs : List A) (j : ℕ) (d : A) → get_or (reverse_aux us zs) (length us + j) d ≡ get_or zs j d
  reverse_past [] zs j d = ap (λ (n : ℕ). get_or zs n d) (let q : 0 + j ≡ j = omega arith in q)
  reverse_past (u ∷ us) zs j d = ap (λ (n : ℕ). get_or (reverse_aux us (u ∷ zs)) n d) (let q : length (u ∷ us) + j ≡ length us + suc j = omega arith in q) ∙ reverse_past us (u ∷ zs) (suc j) d

  -- a reversed list, from its end
  reverse_at : (us zs : List A) (q : ℕ) (d : A) → q < length us → get_or (reverse_aux us zs) (length us - 1 - q) d ≡ get_or us q d
  reverse_at [] zs q d lt = absurd (omega arith)
  reverse_at (u ∷ us) zs zero d lt = ap (λ (n : ℕ). get_or (reverse_aux us (u ∷ zs)) n d) (let e : length (u ∷ us) - 1 - 0 ≡ length us + 0 = omega arith in e) ∙ reverse_past us (u ∷ zs) 0 d
  reverse_at (u ∷ us) zs (suc q) d lt = ap (λ (n : ℕ). get_or (reverse_aux us (u ∷ zs)) n d) (let e : length (u ∷ us) - 1 - suc q ≡ length us - 1 - q = omega arith in e) ∙ reverse_at us (u ∷ zs) q d (omega arith)

  names_behind : (xs : List A) (i n : ℕ) (o : Option A) → i ≤ length xs → NamesAhead (reverse (take i xs)) n o → (n ≤ suc i) × NamesBack xs (suc i - n) o
  names_behind xs i n (Some x) le a =
      let t = length-take-le i xs le in
      let r = length_reverse (take i xs) [] in
      let low : i - n < length (take i xs) = omega (arith, a.0, a.1.0) in
      let e : length (take i xs) - 1 - (i - n) ≡ n - 1 = omega (arith, a.0, a.1.0) in
      let f : i - n ≡ suc i - n - 1 = omega arith in (
        omega (arith, a.1.0),
        (
          omega (arith, a.1.0),
          (
            omega (arith, a.0, a.1.0),
            ap (λ (j : ℕ). get_or xs j x) (sym f) ∙ sym (get_or-take i xs (i - n) x (omega arith)) ∙ sym (reverse_at (take i xs) [] (i - n) x low) ∙ ap (λ (j : ℕ). get_or (reverse (take i xs)) j x) e ∙ a.1.1,
          ),
        ),
      )
  names_behind xs i n None le a = (omega (arith, a, length_reverse (take i xs) [], length-take-le i xs le), omega (arith, a, length_reverse (take i xs) [], length-take-le i xs le))

module _ {A : Type 0} where
  pub back_names : (l : ℕ) (xs : List A) (vs : List ℕ) → length vs ≡ length xs → (i : ℕ) → i ≤ length xs →
      ((link_back xs vs l i).count ≤ suc i) × NamesBack xs (suc i - (link_back xs vs l i).count) (link_back xs vs l i).key
  back_names l xs vs e i le =
      names_behind xs i _ _ le (nearest_names l (reverse (take i xs)) (reverse (take i vs))
      (length_reverse {A = ℕ} (take i vs) [] ∙ omega (arith, length_reverse (take i xs) [], length-take-le i xs le, length-take-le i vs (omega (arith, e)))))
