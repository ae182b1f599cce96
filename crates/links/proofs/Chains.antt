-- What one level of links says at a split, and what a write leaves of it.
use Rattle.std.proofs.Common.{◌≡◌, ℕ, ◌+◌, ◌<◌, Bool, true, false, cond, ◌≢◌, List, [], ◌∷◌, length, set, sym, refl, ap, ◌∙◌, subst, inl, inr, add_assoc, arith, length-set, get_or-set_other, get_or-set_same}
use Rattle.std.proofs.lemmas.Bool.{cases_Bool, false≢true}
use Rattle.links.specs.declared.Link.{Link}
use Rattle.links.specs.Chain.{plus, nearest, Each, Distinct, Away, Toward, Right, Joins, at, Half, Sound, Fresh}

pub link_eq : (k g : Link) → k.row ≡ g.row → k.count ≡ g.count → k ≡ g
link_eq k g e h = ap (λ r. record { row = r; count = k.count }) e ∙ ap (λ n. record { row = g.row; count = n }) h

pub plus_plus : (m n : ℕ) (k : Link) → plus m (plus n k) ≡ plus (m + n) k
plus_plus m n k = link_eq _ _ refl (sym (add_assoc m n k.count))

pub hit : (p : ℕ → Bool) (r : ℕ) (rs : List ℕ) → p r ≡ true → nearest p (r ∷ rs) ≡ record { row = r; count = 1 }
hit p r rs e = ap (λ v. cond v (record { row = r; count = 1 }) (plus 1 (nearest p rs))) e

pub miss : (p : ℕ → Bool) (r : ℕ) (rs : List ℕ) → p r ≡ false → nearest p (r ∷ rs) ≡ plus 1 (nearest p rs)
miss p r rs e = ap (λ v. cond v (record { row = r; count = 1 }) (plus 1 (nearest p rs))) e

pub not_both : {G : Type 0} (v : Bool) → v ≡ false → v ≡ true → G
not_both v e h = absurd (false≢true (sym e ∙ h))

pub each_map : (P Q : ℕ → Type 0) → ((r : ℕ) → P r → Q r) → (rs : List ℕ) → Each P rs → Each Q rs
each_map P Q h [] t = tt
each_map P Q h (r ∷ rs) t = (h r t.0, each_map P Q h rs t.1)

pub each_both : (P Q R : ℕ → Type 0) → ((r : ℕ) → P r → Q r → R r) → (rs : List ℕ) → Each P rs → Each Q rs → Each R rs
each_both P Q R h [] t u = tt
each_both P Q R h (r ∷ rs) t u = (h r t.0 u.0, each_both P Q R h rs t.1 u.1)

-- what holds of row 0 and of each row holds of the nearest
pub nearest_each : (p : ℕ → Bool) (P : ℕ → Type 0) (rs : List ℕ) → P 0 → Each P rs → P (nearest p rs).row
nearest_each p P [] z t = z
nearest_each p P (r ∷ rs) z t = elim (cases_Bool (p r)) [
  | inl e ↦ subst (λ k. P k.row) (sym (hit p r rs e)) t.0
  | inr e ↦ subst (λ k. P k.row) (sym (miss p r rs e)) (nearest_each p P rs z t.1)
]

-- links that agree on the list are right together
pub away_same : (p : ℕ → Bool) (f g : ℕ → Link) (far : List ℕ) → Each (λ r. g r ≡ f r) far → Away p f far → Away p g far
away_same p f g [] e a = tt
away_same p f g (r ∷ far) e a = ((λ h. e.0 ∙ a.0 h), away_same p f g far e.1 a.1)

pub toward_same : (p : ℕ → Bool) (f g : ℕ → Link) (near near' far : List ℕ) → nearest p near ≡ nearest p near' → g 0 ≡ f 0 →
    Each (λ r. g r ≡ f r) far → Toward p f near far → Toward p g near' far
toward_same p f g near near' [] n z e a = z ∙ a ∙ n
toward_same p f g near near' (r ∷ far) n z e a = (
  (λ h. e.0 ∙ a.0 h ∙ n),
  toward_same p f g (r ∷ near) (r ∷ near') far (ap (λ k. cond (p r) (record { row = r; count = 1 }) (plus 1 k)) n) z e.1 a.1,
)

-- g is f but at the row that k names, where it joins k to the link n
abbrev pub Turned : (f g : ℕ → Link) → List ℕ → Link → Link → Type 0
Turned f g far k n = Each (λ r. r ≢ k.row → g r ≡ f r) far × (k.row ≢ 0 → g 0 ≡ f 0) × Joins (g k.row) k n

joins_one : (r : ℕ) (k n : Link) → Joins k (record { row = r; count = 1 }) n → k ≡ n
joins_one r k n j = link_eq k n j.0 (omega (arith, j.1))

joins_further : (k a n m : Link) → m ≡ plus 1 n → Joins k (plus 1 a) n → Joins k a m
joins_further k a n m e j = subst (λ z. Joins k a z) (sym e) ((j.0, omega (arith, j.1)))

-- what lies beyond the split may change, if the link of the nearest row over the split does
pub toward_turn : (p : ℕ → Bool) (f g : ℕ → Link) (near near' far : List ℕ) (k : Link) → nearest p far ≡ k →
    Each (λ r. r ≢ 0) far → Distinct far → Turned f g far k (nearest p near') → Toward p f near far → Toward p g near' far
toward_turn p f g near near' [] k e z d t a =
    joins_one 0 (g 0) (nearest p near') (subst (λ m. Joins (g m.row) m (nearest p near')) (sym e) t.2)
toward_turn p f g near near' (r ∷ far) k e z d t a = elim (cases_Bool (p r)) [
  | inl y ↦
      (let u : Turned f g (r ∷ far) (record { row = r; count = 1 }) (nearest p near') = subst (λ m. Turned f g (r ∷ far) m (nearest p near')) (sym e ∙ hit p r far y) t in (
        (λ _. joins_one r (g r) (nearest p near') u.2),
        toward_same p f g (r ∷ near) (r ∷ near') far (hit p r near y ∙ sym (hit p r near' y)) (u.1 z.0)
            (each_both (λ x. x ≢ r → g x ≡ f x) (λ x. x ≢ r) (λ x. g x ≡ f x) (λ x h i. h i) far u.0.1 d.0) a.1,
      ))
  | inr y ↦
      (let u : Turned f g (r ∷ far) (plus 1 (nearest p far)) (nearest p near') = subst (λ m. Turned f g (r ∷ far) m (nearest p near')) (sym e ∙ miss p r far y) t in (
        (λ h. not_both (p r) y h),
        toward_turn p f g (r ∷ near) (r ∷ near') far (nearest p far) refl z.1 d.1
            (u.0.1, u.1, joins_further (g (nearest p far).row) (nearest p far) (nearest p near') (nearest p (r ∷ near')) (miss p r near' y) u.2) a.1,
      ))
]

none : Link
none = record { row = 0; count = 0 }

positive : (size : ℕ) (xs ys : List ℕ) → Half size xs ys → Each (λ r. r ≢ 0) xs
positive size xs ys h = each_map (λ r. (0 < r) × (r < size) × Each (λ y. y ≢ r) ys) (λ r. r ≢ 0) (λ r t. omega (arith, t.0)) xs h.0

-- the nearest row of xs stands not in ys
nearest_apart : (p : ℕ → Bool) (size : ℕ) (xs ys : List ℕ) → Sound size xs ys → Each (λ y. y ≢ (nearest p xs).row) ys
nearest_apart p size xs ys s = nearest_each p (λ x. Each (λ y. y ≢ x) ys) xs (positive size ys xs s.1)
    (each_map (λ r. (0 < r) × (r < size) × Each (λ y. y ≢ r) ys) (λ r. Each (λ y. y ≢ r) ys) (λ r t. t.2) xs s.0.0)

pub nearest_below : (p : ℕ → Bool) (size : ℕ) (xs ys : List ℕ) → 0 < size → Half size xs ys → (nearest p xs).row < size
nearest_below p size xs ys z h = nearest_each p (λ x. x < size) xs z
    (each_map (λ r. (0 < r) × (r < size) × Each (λ y. y ≢ r) ys) (λ r. r < size) (λ r t. t.1) xs h.0)

-- one direction of a level, one link of it turned: what is behind the split stays right, whatever comes in before it
turned_toward : (p : ℕ → Bool) (nx : List Link) (k v : Link) (behind before new : List ℕ) → nearest p behind ≡ k → k.row < length nx →
    Each (λ r. r ≢ 0) behind → Distinct behind → Joins v k (nearest p new) →
    Toward p (at nx) before behind → Toward p (at (set nx k.row v)) new behind
turned_toward p nx k v behind before new e lt z d j t =
    toward_turn p (at nx) (at (set nx k.row v)) before new behind k e z d (
      each_map (λ r. r ≢ 0) (λ r. r ≢ k.row → at (set nx k.row v) r ≡ at nx r) (λ r _ ne. get_or-set_other nx k.row r v _ ne) behind z,
      (λ ne. get_or-set_other nx k.row 0 v _ (λ q. ne (sym q))),
      subst (λ m. Joins m k (nearest p new)) (sym (get_or-set_same nx k.row v _ lt)) j,
    ) t

-- a link of row n does not matter where n stands nowhere
away_other : (p : ℕ → Bool) (nx : List Link) (n : ℕ) (v : Link) (far : List ℕ) → Each (λ r. r ≢ n) far → Away p (at nx) far → Away p (at (set nx n v)) far
away_other p nx n v far e a = away_same p (at nx) (at (set nx n v)) far
    (each_map (λ r. r ≢ n) (λ r. at (set nx n v) r ≡ at nx r) (λ r ne. get_or-set_other nx n r v _ ne) far e) a

toward_other : (p : ℕ → Bool) (nx : List Link) (n : ℕ) (v : Link) (near far : List ℕ) → 0 < n → Each (λ r. r ≢ n) far →
    Toward p (at nx) near far → Toward p (at (set nx n v)) near far
toward_other p nx n v near far z e a = toward_same p (at nx) (at (set nx n v)) near near far refl (get_or-set_other nx n 0 v _ (omega arith))
    (each_map (λ r. r ≢ n) (λ r. at (set nx n v) r ≡ at nx r) (λ r ne. get_or-set_other nx n r v _ ne) far e) a

-- a row that reaches the level comes in
pub enters : (p : ℕ → Bool) (nx : List Link) (size n : ℕ) (behind before : List ℕ) → 0 < size → length nx ≡ size →
    Sound size behind before → Fresh size n behind before → p n ≡ true → Right p (at nx) behind before →
    Right p (at (set (set nx (nearest p behind).row (record { row = n; count = (nearest p behind).count })) n (nearest p before))) behind (n ∷ before)
enters p nx size n behind before z len s fr y r =
    let k = nearest p behind in
    let v : Link = record { row = n; count = k.count } in
    let lt : k.row < length nx = subst (λ m. k.row < m) (sym len) (nearest_below p size behind before z s.0) in
    let nlt : n < length (set nx k.row v) = simp length-set (omega (arith, fr.1)) in (
      (
        (λ _. get_or-set_same (set nx k.row v) n (nearest p before) _ nlt),
        away_other p (set nx k.row v) n (nearest p before) before fr.3 (away_other p nx k.row v before (nearest_apart p size behind before s) r.0),
      ),
      toward_other p (set nx k.row v) n (nearest p before) (n ∷ before) behind fr.0 fr.2
          (turned_toward p nx k v behind before (n ∷ before) refl lt (positive size behind before s.0) s.0.1
          (subst (λ m. Joins v k m) (sym (hit p n before y)) (refl, refl)) r.1),
    )

-- a row that does not reach the level comes in, and the link over it is one longer
pub stretches : (p : ℕ → Bool) (nx : List Link) (size n : ℕ) (behind before : List ℕ) → 0 < size → length nx ≡ size →
    Sound size behind before → p n ≡ false → Right p (at nx) behind before →
    Right p (at (set nx (nearest p behind).row (plus (nearest p behind).count (nearest p before)))) behind (n ∷ before)
stretches p nx size n behind before z len s y r =
    let k = nearest p behind in
    let v : Link = plus k.count (nearest p before) in
    let lt : k.row < length nx = subst (λ m. k.row < m) (sym len) (nearest_below p size behind before z s.0) in (
      ((λ h. not_both (p n) y h), away_other p nx k.row v before (nearest_apart p size behind before s) r.0),
      turned_toward p nx k v behind before (n ∷ before) refl lt (positive size behind before s.0) s.0.1
          (subst (λ m. Joins v k m) (sym (miss p n before y)) (refl, omega arith)) r.1,
    )

-- a row goes out: the link over its place joins the two that met there
pub leaves : (p : ℕ → Bool) (nx : List Link) (size n : ℕ) (behind before : List ℕ) (v : Link) → 0 < size → length nx ≡ size →
    Sound size behind before → Joins v (nearest p behind) (nearest p before) → Right p (at nx) behind (n ∷ before) →
    Right p (at (set nx (nearest p behind).row v)) behind before
leaves p nx size n behind before v z len s j r =
    let k = nearest p behind in
    let lt : k.row < length nx = subst (λ m. k.row < m) (sym len) (nearest_below p size behind before z s.0) in (
      away_other p nx k.row v before (nearest_apart p size behind before s) r.0.1,
      turned_toward p nx k v behind (n ∷ before) before refl lt (positive size behind before s.0) s.0.1 j r.1,
    )
