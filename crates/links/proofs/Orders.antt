-- The order is what the links of level 0 lead through.
use Rattle.std.proofs.Common.{◌≡◌, ℕ, zero, suc, ◌+◌, ◌-◌, ◌<◌, ◌≤◌, List, [], ◌∷◌, ◌++◌, length, get_or, take, drop, sym, refl, ap, ◌∙◌, subst, arith, length-drop, take-append-drop, drop-cons, lt-ltb}
use mathlib.Core.HLevel.{×_prop}
use mathlib.Core.Logic.{∥∥₁_elim}
use native.Mathlib.Bridge.{le_prop}
use Rattle.links.proofs.Props.{ring_prop}
use Rattle.std.specs.List.{remove}
use Rattle.std.proofs.lemmas.List.{length-take-le}
use Rattle.std.proofs.lemmas.List.Edits.{length-remove}
use Rattle.links.specs.declared.Link.{Link}
use Rattle.links.specs.declared.Row.{Row}
use Rattle.links.specs.declared.Way.TheVariants.{Ahead}
use Rattle.links.specs.Cell.{levels, view}
use Rattle.links.specs.Chain.{limit, reach, at}
use Rattle.links.specs.Ring.{Level, Ring, first, walk, order, turned, Holds}
use Rattle.links.proofs.Chains.{hit}
use Rattle.links.proofs.Splits.{ring_back, ring_on}
use Rattle.links.proofs.Inserts.{first_leads}

pub length_walk : (f : ℕ → Link) (n r : ℕ) → length (walk f n r) ≡ n
length_walk f zero r = refl
length_walk f (suc n) r = ap suc (length_walk f n (f r).row)

pub length_order : (a : List Row) (n : ℕ) → length (order a n) ≡ n
unfolding order
length_order a n = length_walk (at (view Ahead 0 a)) n 0

walked : (a : List Row) (zs us : List ℕ) → Ring a zs us → walk (at (view Ahead 0 a)) (length us) (first zs) ≡ us
unfolding Level
walked a zs [] g = refl
walked a zs (u ∷ us) g =
    let f = at (view Ahead 0 a) in
    let to : (f (first zs)).row ≡ u = ap (λ (k : Link). k.row) (first_leads (levels a) f (u ∷ us) zs g.high_xs (g.right 0 g.head_tall.0).0.1 ∙ hit (reach (levels a) 0) u us (lt-ltb 0 (get_or (levels a) u 0) g.high_ys.0.0)) in
    ap (λ r. r ∷ walk f (length us) r) to ∙ ap (λ rs. u ∷ rs) (walked a (u ∷ zs) us (ring_back a u zs us g))

pub order_is : (a : List Row) (rs : List ℕ) (n : ℕ) → n ≡ length rs → Ring a [] rs → order a n ≡ rs
unfolding order
order_is a rs n e g = ap (λ k. walk (at (view Ahead 0 a)) k 0) e ∙ walked a [] rs g

-- a split anywhere, and back
turned_twice : (us zs ys : List ℕ) → turned (turned us zs) ys ≡ turned zs (us ++ ys)
turned_twice [] zs ys = refl
turned_twice (u ∷ us) zs ys = turned_twice us (u ∷ zs) ys

pub split : (a : List Row) (us zs ys : List ℕ) → Ring a zs (us ++ ys) → Ring a (turned us zs) ys
split a [] zs ys g = g
split a (u ∷ us) zs ys g = split a us (u ∷ zs) ys (ring_back a u zs (us ++ ys) g)

whole : (a : List Row) (zs ys : List ℕ) → Ring a zs ys → Ring a [] (turned zs ys)
whole a [] ys g = g
whole a (z ∷ zs) ys g = whole a zs (z ∷ ys) (ring_on a z zs ys g)

pub length_turned : (us zs : List ℕ) → length (turned us zs) ≡ length us + length zs
length_turned [] zs = omega arith
length_turned (u ∷ us) zs = omega (arith, length_turned us (u ∷ zs))

pub ring_at : (a : List Row) (os : List ℕ) (i : ℕ) → Ring a [] os → Ring a (turned (take i os) []) (drop i os)
ring_at a os i g = split a (take i os) [] (drop i os) (subst (λ x. Ring a [] x) (sym (take-append-drop i os)) g)

pub ring_whole : (a : List Row) (us ys : List ℕ) → Ring a (turned us []) ys → Ring a [] (us ++ ys)
ring_whole a us ys g = subst (λ x. Ring a [] x) (turned_twice us [] ys) (whole a (turned us []) ys g)

-- the row at place i, with the rows behind it
pub ring_here : (a : List Row) (os : List ℕ) (i : ℕ) → i < length os → Ring a [] os → Ring a (turned (take i os) []) (get_or os i 0 ∷ drop (suc i) os)
ring_here a os i lt g = subst (λ x. Ring a (turned (take i os) []) x) (drop-cons os i 0 lt) (ring_at a os i g)

pub length_here : (os : List ℕ) (i : ℕ) → i ≤ length os → length (turned (take i os) []) ≡ i
length_here os i le = length_turned (take i os) [] ∙ omega (arith, length-take-le i os le)

pub holds_prop : (a : List Row) (n : ℕ) → IsProp (Holds a n)
holds_prop a n = ×_prop (ring_prop a [] (order a n)) le_prop

-- no row
pub order_none : (a : List Row) → order a 0 ≡ []
unfolding order
order_none a = refl

-- rows that hold a list in order hold their order
pub holds_from : (a : List Row) (os : List ℕ) (n : ℕ) → n ≡ length os → n + 2 < limit → Ring a [] os → Holds a n × (order a n ≡ os)
holds_from a os n e few g = let o = order_is a os n e g in ((subst (λ x. Ring a [] x) (sym o) g, few), o)

pub holds_none : (a : List Row) → Ring a [] [] → Holds a 0
holds_none a g = (holds_from a [] 0 refl (omega arith) g).0

-- the row at place i, as the lookups and removal ask for it
pub here_at : (a : List Row) (n i : ℕ) → i < n → Holds a n →
    Ring a (turned (take i (order a n)) []) (get_or (order a n) i 0 ∷ drop (suc i) (order a n)) × (i ≡ length (turned (take i (order a n)) []))
    × (length (turned (take i (order a n)) []) + length (drop (suc i) (order a n)) + 2 < limit)
here_at a n i lt h =
    let l = length_order a n in
    let e = length_here (order a n) i (omega arith) in
    (ring_here a (order a n) i (omega arith) h.0, sym e, omega (arith, length-drop (suc i) (order a n), h.1))

pub here_row : (a : List Row) (n i r : ℕ) → i < n → Holds a n → r ≡ get_or (order a n) i 0 → Ring a (turned (take i (order a n)) []) (r ∷ drop (suc i) (order a n))
here_row a n i r lt h e = subst (λ x. Ring a (turned (take i (order a n)) []) (x ∷ drop (suc i) (order a n))) (sym e) (here_at a n i lt h).0

-- one row less
pub one_less : (a b : List Row) (n i : ℕ) → i < n → Holds a n → Ring b (turned (take i (order a n)) []) (drop (suc i) (order a n)) →
    Holds b (n - 1) × (order b (n - 1) ≡ remove (order a n) i)
one_less a b n i lt h g =
    let l = length_order a n in
    holds_from b (remove (order a n) i) (n - 1) (omega (arith, length-remove (order a n) i (omega arith))) (omega (arith, h.1))
    (ring_whole b (take i (order a n)) (drop (suc i) (order a n)) g)

-- what the ghost field holds
pub held : (a : List Row) (n : ℕ) → ∥ Holds a n ∥₁ → Holds a n
held a n t = ∥∥₁_elim t (holds_prop a n) (λ h. h)

-- what a lookup found
pub found : (a : List Row) (n i r : ℕ) → i < n → Holds a n → ((xs : List ℕ) (q : ℕ) (ys : List ℕ) → Ring a xs (q ∷ ys) → i ≡ length xs → r ≡ q) → r ≡ get_or (order a n) i 0
found a n i r lt h ens = let t = here_at a n i lt h in ens _ _ _ t.0 t.1
