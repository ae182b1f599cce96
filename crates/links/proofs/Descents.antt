-- Down from the head's top level to a split of the order: on each level, the last row behind the split.
use Rattle.std.proofs.Common.{◌≡◌, ℕ, ◌+◌, ◌-◌, ◌<◌, ◌≤◌, Bool, ltb, List, [], ◌∷◌, length, sym, refl, ap, ◌∙◌, subst, inl, inr, arith, ltb-false, ltb-true}
use Rattle.std.proofs.lemmas.Bool.{cases_Bool}
use Rattle.links.specs.declared.Link.{Link}
use Rattle.links.specs.Chain.{plus, nearest, Each, Toward, at, Within, reach, Stop, Nears}
use Rattle.links.proofs.Chains.{link_eq, plus_plus, hit, miss}
use Rattle.links.proofs.Climbs.{nearest_long, Narrower}

plus_to : (k g : Link) (m : ℕ) → k ≡ g → m ≡ 0 → k ≡ plus m g
plus_to k g m e z = e ∙ link_eq g (plus m g) refl (omega arith)

-- the link ahead of the last row behind a split leads over the split
pub spans : (p : ℕ → Bool) (f : ℕ → Link) (near zs : List ℕ) → Toward p f near zs → f (nearest p zs).row ≡ plus ((nearest p zs).count - 1) (nearest p near)
spans p f near [] t = plus_to (f 0) (nearest p near) 0 t refl
spans p f near (r ∷ zs) t = elim (cases_Bool (p r)) [
  | inl y ↦ subst (λ (x : Link). f x.row ≡ plus (x.count - 1) (nearest p near)) (sym (hit p r zs y)) (plus_to (f r) (nearest p near) 0 (t.0 y) refl)
  | inr y ↦ subst (λ (x : Link). f x.row ≡ plus (x.count - 1) (nearest p near)) (sym (miss p r zs y))
      (let b = nearest_long p zs in
      spans p f (r ∷ near) zs t.1 ∙ ap (λ x. plus ((nearest p zs).count - 1) x) (miss p r near y) ∙ plus_plus ((nearest p zs).count - 1) 1 (nearest p near)
      ∙ ap (λ n. plus n (nearest p near)) (omega (arith, b.0)))
]

pub stop_head : (p : ℕ → Bool) (xs : List ℕ) (k : Link) → k.row ≡ 0 → k.count ≡ length xs + 1 → Stop p xs k
stop_head p [] k z e = link_eq k (record { row = 0; count = 1 }) z e
stop_head p (r ∷ xs) k z e = inr (record { row = 0; count = length xs + 1 }, (stop_head p xs (record { row = 0; count = length xs + 1 }) refl refl, link_eq k (record { row = 0; count = 1 + (length xs + 1) }) z (omega arith)))

pub stop_nearest : (p : ℕ → Bool) (xs : List ℕ) → Stop p xs (nearest p xs)
stop_nearest p [] = refl
stop_nearest p (r ∷ xs) = elim (cases_Bool (p r)) [ inl y ↦ inl (y, hit p r xs y) | inr y ↦ inr (nearest p xs, (stop_nearest p xs, miss p r xs y)) ]

pub stop_lower : (p q : ℕ → Bool) → Narrower p q → (xs : List ℕ) (k : Link) → Stop q xs k → Stop p xs k
stop_lower p q n [] k s = s
stop_lower p q n (r ∷ xs) k s = elim s [ inl h ↦ inl (n r h.0, h.1) | inr h ↦ inr (h.0, (stop_lower p q n xs h.0 h.1.0, h.1.1)) ]

pub stop_row : (p : ℕ → Bool) (size : ℕ) (xs : List ℕ) (k : Link) → 0 < size → Each (Within size) xs → Stop p xs k → k.row < size
stop_row p size [] k z i s = subst (λ (x : Link). x.row < size) (sym s) z
stop_row p size (r ∷ xs) k z i s = elim s [
  | inl h ↦ subst (λ (x : Link). x.row < size) (sym h.1) i.0.1
  | inr h ↦ subst (λ (x : Link). x.row < size) (sym h.1.1) (stop_row p size xs h.0 z i.1 h.1.0)
]

-- where the link ahead of a stop does not pass the split, it leads to the next stop; else the stop is the last row behind the split
abbrev pub Onward : (ℕ → Bool) → List ℕ → Link → Link → Type 0
Onward p xs k over = (1 ≤ over.count) × ((over.count < k.count → Stop p xs (record { row = over.row; count = k.count - over.count })) × (k.count ≤ over.count → k ≡ nearest p xs))

pub onward : (p : ℕ → Bool) (f : ℕ → Link) (near xs : List ℕ) (k : Link) → Toward p f near xs → Stop p xs k → Onward p xs k (f k.row)
onward p f near [] k t s =
    subst (λ (x : Link). Onward p [] x (f x.row)) (sym s)
    (subst (λ (x : Link). Onward p [] (record { row = 0; count = 1 }) x) (sym t) ((nearest_long p near).0, ((λ lt. absurd (omega (arith, (nearest_long p near).0))), (λ _. refl))))
onward p f near (r ∷ xs) k t s = elim s [
  | inl h ↦ subst (λ (x : Link). Onward p (r ∷ xs) x (f x.row)) (sym h.1)
      (subst (λ (x : Link). Onward p (r ∷ xs) (record { row = r; count = 1 }) x) (sym (t.0 h.0)) ((nearest_long p near).0, ((λ lt. absurd (omega (arith, (nearest_long p near).0))), (λ _. sym (hit p r xs h.0)))))
  | inr h ↦
      (let j = h.0 in
      let o : Onward p xs j (f j.row) = onward p f (r ∷ near) xs j t.1 h.1.0 in
      let over = f j.row in
      let b = nearest_long p near in
      let span : j.count ≤ over.count → over ≡ plus (j.count - 1) (nearest p (r ∷ near)) = (λ le. ap (λ (x : Link). f x.row) (o.1.1 le) ∙ spans p f (r ∷ near) xs t.1 ∙ ap (λ (x : Link). plus (x.count - 1) (nearest p (r ∷ near))) (sym (o.1.1 le))) in
      let hop : over.count < 1 + j.count → Stop p (r ∷ xs) (record { row = over.row; count = (1 + j.count) - over.count }) = (λ lt. elim (cases_Bool (ltb over.count j.count)) [
        | inl y ↦ (let less = ltb-true over.count j.count y in
            inr (record { row = over.row; count = j.count - over.count }, (o.1.0 less, link_eq _ _ refl (omega arith))))
        | inr y ↦ (let ge = ltb-false over.count j.count y in
            let e = span ge in
            elim (cases_Bool (p r)) [
              | inl w ↦ inl (w, link_eq _ _ (ap (λ (x : Link). x.row) (e ∙ ap (λ x. plus (j.count - 1) x) (hit p r near w))) (omega arith))
              | inr w ↦ absurd (omega (arith, ap (λ (x : Link). x.count) (e ∙ ap (λ x. plus (j.count - 1) x) (miss p r near w)), b.0, ge, o.0))
            ])
      ]) in
      let stay : 1 + j.count ≤ over.count → plus 1 j ≡ nearest p (r ∷ xs) = (λ le.
      let ge : j.count ≤ over.count = omega arith in
      let e = span ge in
      elim (cases_Bool (p r)) [
        | inl w ↦ absurd (omega (arith, ap (λ (x : Link). x.count) (e ∙ ap (λ x. plus (j.count - 1) x) (hit p r near w)), le, ap (λ (x : Link). x.count) (o.1.1 ge), (nearest_long p xs).0))
        | inr w ↦ ap (λ x. plus 1 x) (o.1.1 ge) ∙ sym (miss p r xs w)
      ]) in
      subst (λ (x : Link). Onward p (r ∷ xs) x (f x.row)) (sym h.1.1) (o.0, (hop, stay)))
]

pub approach_step : (ls : List ℕ) (nx : List Link) (l : ℕ) (xs ys : List ℕ) (from k over : Link) → Nears ls nx l xs ys from → Stop (reach ls l) xs k → over ≡ at nx k.row →
    Onward (reach ls l) xs k over
approach_step ls nx l xs ys from k over h s e = subst (λ x. Onward (reach ls l) xs k x) (sym e) (onward (reach ls l) (at nx) ys xs k h.0 s)

pub near_row : (ls : List ℕ) (l : ℕ) (xs : List ℕ) (near : Link) → 0 < length ls → Each (Within (length ls)) xs → near ≡ nearest (reach ls l) xs → near.row < length ls
near_row ls l xs near z i e = stop_row (reach ls l) (length ls) xs near z i (subst (λ k. Stop (reach ls l) xs k) (sym e) (stop_nearest (reach ls l) xs))
