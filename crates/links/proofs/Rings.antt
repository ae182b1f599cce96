-- One level of links as a row comes in.
use Rattle.std.proofs.Common.{◌≡◌, ℕ, ◌+◌, ◌-◌, ◌<◌, ◌≤◌, Bool, List, ◌∷◌, length, get_or, set, sym, refl, ap, ◌∙◌, subst, add_comm, arith, le-ltb, lt-ltb}
use Rattle.links.specs.declared.Link.{Link}
use Rattle.links.specs.declared.Row.{Row}
use Rattle.links.specs.declared.Way.TheVariants.{Ahead, Back}
use Rattle.links.specs.Cell.{levels, view}
use Rattle.links.specs.Chain.{limit, plus, nearest, Right, reach, at, Sound}
use Rattle.links.specs.Ring.{Level, Only, Pair, Sides}
use Rattle.links.proofs.Heads.{length_view}
use Rattle.links.proofs.Chains.{nearest_below, enters, stretches, leaves}
use Rattle.links.proofs.Climbs.{nearest_long}

pub only_twice : (a b c : List Row) (l : ℕ) → Only a b l → Only b c l → Only a c l
only_twice a b c l h i = record { other = (λ v m ne. i.other v m ne ∙ h.other v m ne); levels_same = i.levels_same ∙ h.levels_same }

some : (size r : ℕ) → r < size → 0 < size
some size r h = omega arith

level_from : (a c : List Row) (l : ℕ) (xs ys : List ℕ) (f b : List Link) → levels c ≡ levels a → view Ahead l c ≡ f → view Back l c ≡ b →
    Right (reach (levels a) l) (at f) xs ys → Right (reach (levels a) l) (at b) ys xs → Level c l xs ys
unfolding Level
level_from a c l xs ys f b e v w r s = (
  subst (λ x. Right (reach (levels c) l) (at x) xs ys) (sym v) (subst (λ x. Right (reach x l) (at f) xs ys) (sym e) r),
  subst (λ x. Right (reach (levels c) l) (at x) ys xs) (sym w) (subst (λ x. Right (reach x l) (at b) ys xs) (sym e) s),
)

swap : (size : ℕ) (xs ys : List ℕ) → Sound size xs ys → Sound size ys xs
swap size xs ys s = (s.1, s.0)

shift : (p : ℕ → Bool) (f : ℕ → Link) (n : ℕ) (behind before : List ℕ) → Right p f behind (n ∷ before) → Right p f (n ∷ behind) before
shift p f n behind before r = (r.0.1, (r.0.0, r.1))

-- above the new row's level the two links over it grow by one
pub threads_over : (a c : List Row) (l n : ℕ) (pre next : Link) (xs ys : List ℕ) → Sides a l n pre next xs ys → get_or (levels a) n 0 ≤ l →
    Pair a c l pre.row (plus pre.count next) next.row (record { row = pre.row; count = pre.count + next.count }) →
    Level a l xs ys → Level c l xs (n ∷ ys)
unfolding Level
threads_over a c l n pre next xs ys s low w₁ h =
    let w₀ = subst (λ m. Pair a c l pre.row (plus pre.count next) next.row (record { row = pre.row; count = m })) (add_comm pre.count next.count) w₁ in
    let z = some (length (levels a)) n s.fresh.1 in
    let p = reach (levels a) l in
    let out = le-ltb l (get_or (levels a) n 0) low in
    let w : Pair a c l (nearest p xs).row (plus (nearest p xs).count (nearest p ys)) (nearest p ys).row (plus (nearest p ys).count (nearest p xs)) =
    subst (λ (u : Link). Pair a c l u.row (plus u.count (nearest p ys)) (nearest p ys).row (plus (nearest p ys).count u)) s.pre_is
    (subst (λ (u : Link). Pair a c l pre.row (plus pre.count u) u.row (plus u.count pre)) s.suc_is w₀) in
    level_from a c l xs (n ∷ ys) _ _ w.2.levels_same w.0 w.1
    (stretches p (view Ahead l a) (length (levels a)) n xs ys z (length_view Ahead l a) s.sound out h.0)
    (shift p _ n ys xs (stretches p (view Back l a) (length (levels a)) n ys xs z (length_view Back l a) (swap _ xs ys s.sound) out h.1))

-- at the new row's levels it stands between the two
pub threads_in : (a b c : List Row) (l n : ℕ) (pre next : Link) (xs ys : List ℕ) → Sides a l n pre next xs ys → l < get_or (levels a) n 0 →
    Pair a b l pre.row (record { row = n; count = pre.count }) next.row (record { row = n; count = next.count }) →
    Pair b c l n next n pre → Level a l xs ys → Level c l xs (n ∷ ys)
unfolding Level
threads_in a b c l n pre next xs ys s up v₀ w₀ h =
    let z = some (length (levels a)) n s.fresh.1 in
    let p = reach (levels a) l in
    let yes' = lt-ltb l (get_or (levels a) n 0) up in
    let v : Pair a b l (nearest p xs).row (record { row = n; count = (nearest p xs).count }) (nearest p ys).row (record { row = n; count = (nearest p ys).count }) =
    subst (λ (u : Link). Pair a b l u.row (record { row = n; count = u.count }) (nearest p ys).row (record { row = n; count = (nearest p ys).count })) s.pre_is
    (subst (λ (u : Link). Pair a b l pre.row (record { row = n; count = pre.count }) u.row (record { row = n; count = u.count })) s.suc_is v₀) in
    let w : Pair b c l n (nearest p ys) n (nearest p xs) =
    subst (λ (u : Link). Pair b c l n (nearest p ys) n u) s.pre_is (subst (λ (u : Link). Pair b c l n u n pre) s.suc_is w₀) in
    let fr = s.fresh in
    level_from a c l xs (n ∷ ys) _ _ (w.2.levels_same ∙ v.2.levels_same)
    (w.0 ∙ ap (λ x. set x n (nearest p ys)) v.0) (w.1 ∙ ap (λ x. set x n (nearest p xs)) v.1)
    (enters p (view Ahead l a) (length (levels a)) n xs ys z (length_view Ahead l a) s.sound fr yes' h.0)
    (shift p _ n ys xs (enters p (view Back l a) (length (levels a)) n ys xs z (length_view Back l a) (swap _ xs ys s.sound) (fr.0, fr.1, fr.3, fr.2) yes' h.1))

-- what the code needs to know of the two sides
pub sides_fit : (a : List Row) (l n : ℕ) (pre next : Link) (xs ys : List ℕ) → Sides a l n pre next xs ys →
    (pre.row < length (levels a)) × (next.row < length (levels a)) × (n < length (levels a)) × (pre.count + next.count < limit)
sides_fit a l n pre next xs ys s =
    let z = some (length (levels a)) n s.fresh.1 in
    let p = reach (levels a) l in (
      subst (λ (u : Link). u.row < length (levels a)) (sym s.pre_is) (nearest_below p (length (levels a)) xs ys z s.sound.0),
      subst (λ (u : Link). u.row < length (levels a)) (sym s.suc_is) (nearest_below p (length (levels a)) ys xs z s.sound.1),
      s.fresh.1,
      omega (arith, s.few, ap (λ (u : Link). u.count) s.pre_is, ap (λ (u : Link). u.count) s.suc_is, (nearest_long p xs).1, (nearest_long p ys).1),
    )

-- a row goes out of a level: the two links join
pub unthreads : (a c : List Row) (l n : ℕ) (pre next : Link) (xs ys : List ℕ) → Sides a l n pre next xs ys →
    Pair a c l pre.row (record { row = next.row; count = pre.count + next.count - 1 }) next.row (record { row = pre.row; count = pre.count + next.count - 1 }) →
    Level a l xs (n ∷ ys) → Level c l xs ys
unfolding Level
unthreads a c l n pre next xs ys s w₀ h =
    let z = some (length (levels a)) n s.fresh.1 in
    let p = reach (levels a) l in
    let k = nearest p xs in
    let g = nearest p ys in
    let w : Pair a c l k.row (record { row = g.row; count = k.count + g.count - 1 }) g.row (record { row = k.row; count = k.count + g.count - 1 }) =
    subst (λ (u : Link). Pair a c l u.row (record { row = g.row; count = u.count + g.count - 1 }) g.row (record { row = u.row; count = u.count + g.count - 1 })) s.pre_is
    (subst (λ (u : Link). Pair a c l pre.row (record { row = u.row; count = pre.count + u.count - 1 }) u.row (record { row = pre.row; count = pre.count + u.count - 1 })) s.suc_is w₀) in
    let b = nearest_long p xs in
    level_from a c l xs ys _ _ w.2.levels_same w.0 w.1
    (leaves p (view Ahead l a) (length (levels a)) n xs ys _ z (length_view Ahead l a) s.sound (refl, omega (arith, b.0)) h.0)
    (leaves p (view Back l a) (length (levels a)) n ys xs _ z (length_view Back l a) (swap _ xs ys s.sound) (refl, omega (arith, b.0))
    (((h.1.1.0, h.1.0), h.1.1.1)))

pub sides_some : (a : List Row) (l n : ℕ) (pre next : Link) (xs ys : List ℕ) → Sides a l n pre next xs ys → 1 ≤ pre.count
sides_some a l n pre next xs ys s = omega (arith, ap (λ (u : Link). u.count) s.pre_is, (nearest_long (reach (levels a) l) xs).0)
