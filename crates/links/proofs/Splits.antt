-- The split may stand anywhere in the order, and a link leads from one split to another.
use Rattle.std.proofs.Common.{◌≡◌, ℕ, ◌+◌, ◌-◌, ◌<◌, ◌≤◌, Bool, ◌≢◌, ◌⊎◌, List, [], ◌∷◌, length, get_or, sym, refl, ◌∙◌, subst, inl, inr, arith, lt-ltb}
use Rattle.std.proofs.lemmas.Bool.{cases_Bool}
use Rattle.links.specs.declared.Link.{Link}
use Rattle.links.specs.declared.Row.{Row}
use Rattle.links.specs.declared.Way.TheVariants.{Back}
use Rattle.links.specs.Cell.{levels, view}
use Rattle.links.specs.Chain.{plus, nearest, Each, reach, at, Sound}
use Rattle.links.specs.Ring.{Level, Tall, Ring}
use Rattle.links.proofs.Chains.{hit, miss, each_map, each_both}
use Rattle.links.proofs.Climbs.{nearest_long}

sound_back : (size r : ℕ) (xs ys : List ℕ) → Sound size xs (r ∷ ys) → Sound size (r ∷ xs) ys
sound_back size r xs ys s = (
  (
    (
      (s.1.0.0.0, s.1.0.0.1, s.1.1.0),
      each_map (λ x. (0 < x) × (x < size) × Each (λ y. y ≢ x) (r ∷ ys)) (λ x. (0 < x) × (x < size) × Each (λ y. y ≢ x) ys) (λ x t. (t.0, t.1, t.2.1)) xs s.0.0,
    ),
    (s.1.0.0.2, s.0.1),
  ),
  (
    each_both (λ y. (0 < y) × (y < size) × Each (λ x. x ≢ y) xs) (λ y. y ≢ r) (λ y. (0 < y) × (y < size) × Each (λ x. x ≢ y) (r ∷ xs))
        (λ y t ne. (t.0, t.1, ((λ e. ne (sym e)), t.2))) ys s.1.0.1 s.1.1.0,
    s.1.1.1,
  ),
)

level_back : (a : List Row) (l r : ℕ) (xs ys : List ℕ) → Level a l xs (r ∷ ys) → Level a l (r ∷ xs) ys
unfolding Level
level_back a l r xs ys h = ((h.0.0.1, (h.0.0.0, h.0.1)), ((h.1.1.0, h.1.0), h.1.1.1))

level_on : (a : List Row) (l r : ℕ) (xs ys : List ℕ) → Level a l (r ∷ xs) ys → Level a l xs (r ∷ ys)
unfolding Level
level_on a l r xs ys h = (((h.0.1.0, h.0.0), h.0.1.1), (h.1.0.1, (h.1.0.0, h.1.1)))

pub ring_back : (a : List Row) (r : ℕ) (xs ys : List ℕ) → Ring a xs (r ∷ ys) → Ring a (r ∷ xs) ys
ring_back a r xs ys g = record {
  sound = sound_back (length (levels a)) r xs ys g.sound;
  head_tall = g.head_tall;
  high_xs = (g.high_ys.0, g.high_xs);
  high_ys = g.high_ys.1;
  right = (λ l lt. level_back a l r xs ys (g.right l lt));
}

pub ring_on : (a : List Row) (r : ℕ) (xs ys : List ℕ) → Ring a (r ∷ xs) ys → Ring a xs (r ∷ ys)
ring_on a r xs ys g =
    let s = sound_back (length (levels a)) r ys xs (g.sound.1, g.sound.0) in
    record {
      sound = (s.1, s.0);
      head_tall = g.head_tall;
      high_xs = g.high_xs.1;
      high_ys = (g.high_xs.0, g.high_ys);
      right = (λ l lt. level_on a l r xs ys (g.right l lt));
    }

-- a link back from a split leads to the head, or to another split
abbrev pub BackTo : List Row → List ℕ → Link → Type 0
BackTo a xs k = ((k.row ≡ 0) × (k.count ≡ length xs + 1)) ⊎ ((ws : List ℕ) × ((vs : List ℕ) × (Ring a ws (k.row ∷ vs) × (k.count + length ws ≡ length xs))))

further_back : (a : List Row) (r : ℕ) (xs : List ℕ) (k : Link) → BackTo a xs k → BackTo a (r ∷ xs) (plus 1 k)
further_back a r xs k b = elim b [
  | inl e ↦ inl (e.0, omega (arith, e.1))
  | inr e ↦ inr (e.0, (e.1.0, (e.1.1.0, omega (arith, e.1.1.1))))
]

pub found_back : (a : List Row) (p : ℕ → Bool) (xs ys : List ℕ) → Ring a xs ys → BackTo a xs (nearest p xs)
found_back a p [] ys g = inl (refl, refl)
found_back a p (r ∷ xs) ys g = elim (cases_Bool (p r)) [
  | inl e ↦ subst (λ k. BackTo a (r ∷ xs) k) (sym (hit p r xs e)) (inr (xs, (ys, (ring_on a r xs ys g, omega arith))))
  | inr e ↦ subst (λ k. BackTo a (r ∷ xs) k) (sym (miss p r xs e)) (further_back a r xs (nearest p xs) (found_back a p xs (r ∷ ys) (ring_on a r xs ys g)))
]

-- the link back of a row's top level
pub top_back : (a : List Row) (r v : ℕ) (k : Link) (xs ys : List ℕ) → Ring a xs (r ∷ ys) → v ≡ get_or (levels a) r 0 → k ≡ at (view Back (v - 1) a) r →
    BackTo a xs k × (1 ≤ k.count)
unfolding Level
top_back a r v k xs ys g e f =
    let t = g.high_ys.0 in
    let is : k ≡ nearest (reach (levels a) (v - 1)) xs = f ∙ (g.right (v - 1) (omega (arith, t.0, t.2))).1.1.0 (lt-ltb (v - 1) (get_or (levels a) r 0) (omega (arith, t.0))) in (
      subst (λ x. BackTo a xs x) (sym is) (found_back a (reach (levels a) (v - 1)) xs (r ∷ ys) g),
      subst (λ (x : Link). 1 ≤ x.count) (sym is) (nearest_long (reach (levels a) (v - 1)) xs).0,
    )

-- the way of index_of: `count` steps back from the row with `xs` behind it, now at row `here`
abbrev pub Counted : List Row → List ℕ → ℕ → ℕ → Type 0
Counted a xs here count = ((here ≡ 0) × (count ≡ length xs + 1)) ⊎ ((ws : List ℕ) × ((vs : List ℕ) × (Ring a ws (here ∷ vs) × (count + length ws ≡ length xs))))

pub counted_row : (a : List Row) (xs : List ℕ) (here count : ℕ) → Counted a xs here count → here ≢ 0 →
    (here < length (levels a)) × Tall (levels a) here × (count ≤ length xs)
counted_row a xs here count h ne = elim h [
  | inl e ↦ absurd (ne e.0)
  | inr e ↦ (e.1.1.0.sound.1.0.0.1, e.1.1.0.high_ys.0, omega (arith, e.1.1.1))
]

pub counted_step : (a : List Row) (xs : List ℕ) (here count v : ℕ) (k : Link) → Counted a xs here count → here ≢ 0 → v ≡ get_or (levels a) here 0 → k ≡ at (view Back (v - 1) a) here →
    Counted a xs k.row (count + k.count) × (1 ≤ k.count)
counted_step a xs here count v k h ne e f = elim h [
  | inl z ↦ absurd (ne z.0)
  | inr z ↦
      (let b = top_back a here v k z.0 z.1.0 z.1.1.0 e f in (
        elim b.0 [
          | inl y ↦ inl (y.0, omega (arith, y.1, z.1.1.1))
          | inr y ↦ inr (y.0, (y.1.0, (y.1.1.0, omega (arith, y.1.1.1, z.1.1.1))))
        ],
        b.1,
      ))
]

pub counted_bound : (a : List Row) (xs : List ℕ) (here count : ℕ) → Counted a xs here count → count ≤ length xs + 1
counted_bound a xs here count h = elim h [ inl e ↦ omega (arith, e.1) | inr e ↦ omega (arith, e.1.1.1) ]
