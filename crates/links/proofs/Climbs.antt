-- Climbing from one level to the next: along the links of a level to the nearest row that passes a narrower test.
use Rattle.std.proofs.Common.{◌≡◌, ℕ, ◌+◌, ◌<◌, ◌≤◌, Bool, true, false, ◌≢◌, ◌⊎◌, List, [], ◌∷◌, length, get_or, sym, refl, ap, ◌∙◌, subst, inl, inr, arith, ltb-true, le-ltb, lt-ltb}
use Rattle.std.proofs.lemmas.Bool.{cases_Bool}
use Rattle.links.specs.declared.Link.{Link}
use Rattle.links.specs.Chain.{plus, nearest, Each, Away, at, Within, reach, Leads}
use Rattle.links.proofs.Chains.{link_eq, plus_plus, hit, miss, not_both, nearest_each, each_map}

pub nearest_long : (p : ℕ → Bool) (zs : List ℕ) → (1 ≤ (nearest p zs).count) × ((nearest p zs).count ≤ length zs + 1)
nearest_long p [] = (omega arith, omega arith)
nearest_long p (r ∷ zs) = let h = nearest_long p zs in elim (cases_Bool (p r)) [
  | inl e ↦ subst (λ (k : Link). (1 ≤ k.count) × (k.count ≤ length (r ∷ zs) + 1)) (sym (hit p r zs e)) (omega arith, omega arith)
  | inr e ↦ subst (λ (k : Link). (1 ≤ k.count) × (k.count ≤ length (r ∷ zs) + 1)) (sym (miss p r zs e)) (omega (arith, h.0), omega (arith, h.1))
]

abbrev pub Narrower : (p q : ℕ → Bool) → Type 0
Narrower p q = (r : ℕ) → q r ≡ true → p r ≡ true

narrow_miss : (p q : ℕ → Bool) → Narrower p q → (r : ℕ) → p r ≡ false → q r ≡ false
narrow_miss p q n r e = elim (cases_Bool (q r)) [ inl y ↦ not_both (p r) e (n r y) | inr y ↦ y ]

-- where one hop of a climb comes to
abbrev pub Hop : (p q : ℕ → Bool) (f : ℕ → Link) (I : ℕ → Type 0) → List ℕ → Link → Type 0
Hop p q f I zs k = (ws : List ℕ) × (Away p f ws × Each I ws × (k.count + length ws ≤ length zs) × (f k.row ≡ nearest p ws) × (nearest q zs ≡ plus k.count (nearest q ws)))

pub hop : (p q : ℕ → Bool) (f : ℕ → Link) (I : ℕ → Type 0) → Narrower p q → (zs : List ℕ) (k : Link) → nearest p zs ≡ k →
    Away p f zs → Each I zs → k.row ≢ 0 → q k.row ≡ false → Hop p q f I zs k
hop p q f I n [] k e a i ne low = absurd (ne (sym (ap (λ (x : Link). x.row) e)))
hop p q f I n (r ∷ zs) k e a i ne low = elim (cases_Bool (p r)) [
  | inl y ↦ subst (λ x. x.row ≢ 0 → q x.row ≡ false → Hop p q f I (r ∷ zs) x) (sym (hit p r zs y) ∙ e)
      (λ _ low'. (zs, (a.1, i.1, omega arith, a.0 y, miss q r zs low'))) ne low
  | inr y ↦ subst (λ x. x.row ≢ 0 → q x.row ≡ false → Hop p q f I (r ∷ zs) x) (sym (miss p r zs y) ∙ e)
      (λ ne' low'. let h = hop p q f I n zs (nearest p zs) refl a.1 i.1 ne' low' in (
        h.0,
        (
          h.1.0,
          h.1.1,
          omega (arith, h.1.2),
          h.1.3,
          miss q r zs (narrow_miss p q n r y) ∙ ap (λ x. plus 1 x) h.1.4 ∙ plus_plus 1 (nearest p zs).count (nearest q h.0),
        ),
      )) ne low
]

-- a climb ends where there is no row, or one that passes
pub stay : (p q : ℕ → Bool) → Narrower p q → (zs : List ℕ) → Each (λ r. r ≢ 0) zs → ((nearest p zs).row ≡ 0) ⊎ (q (nearest p zs).row ≡ true) → nearest q zs ≡ nearest p zs
stay p q n [] z e = refl
stay p q n (r ∷ zs) z e = elim (cases_Bool (p r)) [
  | inl y ↦ hit q r zs (elim (subst (λ x. (x.row ≡ 0) ⊎ (q x.row ≡ true)) (hit p r zs y) e) [ inl w ↦ absurd (z.0 w) | inr w ↦ w ]) ∙ sym (hit p r zs y)
  | inr y ↦ miss q r zs (narrow_miss p q n r y) ∙ ap (λ x. plus 1 x) (stay p q n zs z.1 (subst (λ x. (x.row ≡ 0) ⊎ (q x.row ≡ true)) (miss p r zs y) e)) ∙ sym (miss p r zs y)
]

-- a climb under way
abbrev pub Climbed : List ℕ → List Link → ℕ → List ℕ → Link → Type 0
Climbed ls nx l far k = (m : ℕ) × ((zs : List ℕ) × (Away (reach ls l) (at nx) zs × Each (Within (length ls)) zs × (m + length zs ≤ length far) ×
    (k ≡ plus m (nearest (reach ls l) zs)) × (nearest (reach ls (l + 1)) far ≡ plus m (nearest (reach ls (l + 1)) zs))))

pub narrower : (ls : List ℕ) (l : ℕ) → Narrower (reach ls l) (reach ls (l + 1))
narrower ls l r e = lt-ltb l (get_or ls r 0) (omega (arith, ltb-true (l + 1) (get_or ls r 0) e))

plus_none : (k : Link) → k ≡ plus 0 k
plus_none k = link_eq k (plus 0 k) refl (omega arith)

pub climb_starts : (ls : List ℕ) (nx : List Link) (l : ℕ) (far : List ℕ) (k : Link) → Leads ls nx l far k → Climbed ls nx l far k
climb_starts ls nx l far k h = (0, (far, (h.0, h.1, omega arith, h.3 ∙ plus_none (nearest (reach ls l) far), plus_none (nearest (reach ls (l + 1)) far))))

-- what a hop needs and gives
pub climb_row : (ls : List ℕ) (nx : List Link) (l : ℕ) (far : List ℕ) (k : Link) → 0 < length ls → Climbed ls nx l far k → k.row < length ls
climb_row ls nx l far k z h = subst (λ (x : Link). x.row < length ls) (sym h.1.1.3)
    (nearest_each (reach ls l) (λ r. r < length ls) h.1.0 z (each_map (Within (length ls)) (λ r. r < length ls) (λ r t. t.1) h.1.0 h.1.1.1))

pub climb_hop : (ls : List ℕ) (nx : List Link) (l : ℕ) (far : List ℕ) (k : Link) → Climbed ls nx l far k → k.row ≢ 0 → reach ls (l + 1) k.row ≡ false →
    Climbed ls nx l far (plus k.count (at nx k.row)) × (k.count + (at nx k.row).count ≤ length far + 1) × (1 ≤ (at nx k.row).count)
climb_hop ls nx l far k h ne low =
    let p = reach ls l in
    let q = reach ls (l + 1) in
    let m = h.0 in
    let zs = h.1.0 in
    let c = (nearest p zs).count in
    let e = h.1.1.3 in
    let r : k.row ≡ (nearest p zs).row = ap (λ (x : Link). x.row) e in
    let o : Hop p q (at nx) (Within (length ls)) zs (nearest p zs) = hop p q (at nx) (Within (length ls)) (narrower ls l) zs (nearest p zs) refl h.1.1.0 h.1.1.1 (subst (λ x. x ≢ 0) r ne) (subst (λ x. q x ≡ false) r low) in
    let ws = o.0 in
    let f : at nx k.row ≡ nearest p ws = ap (λ x. at nx x) r ∙ o.1.3 in
    let kc : k.count ≡ m + c = ap (λ (x : Link). x.count) e in
    let fc : (at nx k.row).count ≡ (nearest p ws).count = ap (λ (x : Link). x.count) f in
    let b = nearest_long p ws in (
      (
        m + c,
        (
          ws,
          (
            o.1.0,
            o.1.1,
            omega (arith, h.1.1.2, o.1.2),
            ap (λ x. plus k.count x) f ∙ ap (λ n. plus n (nearest p ws)) kc,
            h.1.1.4 ∙ ap (λ x. plus m x) o.1.4 ∙ plus_plus m c (nearest q ws),
          ),
        ),
      ),
      omega (arith, h.1.1.2, o.1.2, b.1),
      omega (arith, b.0),
    )

pub climb_ends : (ls : List ℕ) (nx : List Link) (l : ℕ) (far : List ℕ) (k : Link) → Climbed ls nx l far k → (k.row ≡ 0) ⊎ (reach ls (l + 1) k.row ≡ true) →
    k ≡ nearest (reach ls (l + 1)) far
climb_ends ls nx l far k h e =
    let p = reach ls l in
    let q = reach ls (l + 1) in
    let zs = h.1.0 in
    let r : k.row ≡ (nearest p zs).row = ap (λ (x : Link). x.row) h.1.1.3 in
    h.1.1.3 ∙ ap (λ x. plus h.0 x) (sym (stay p q (narrower ls l) zs
    (each_map (Within (length ls)) (λ r. r ≢ 0) (λ r t. omega (arith, t.0)) zs h.1.1.1)
    (subst (λ x. (x ≡ 0) ⊎ (q x ≡ true)) r e))) ∙ sym h.1.1.4

-- the same, as the code has it
pub climb_step : (ls : List ℕ) (nx : List Link) (l : ℕ) (far : List ℕ) (k step : Link) (v : ℕ) → Climbed ls nx l far k → k.row ≢ 0 →
    v ≡ get_or ls k.row 0 → v ≤ l + 1 → step ≡ at nx k.row →
    Climbed ls nx l far (plus k.count step) × (k.count + step.count ≤ length far + 1) × (1 ≤ step.count)
climb_step ls nx l far k step v h ne e low f =
    subst (λ (x : Link). Climbed ls nx l far (plus k.count x) × (k.count + x.count ≤ length far + 1) × (1 ≤ x.count)) (sym f)
    (climb_hop ls nx l far k h ne (le-ltb (l + 1) (get_or ls k.row 0) (omega (arith, e))))
