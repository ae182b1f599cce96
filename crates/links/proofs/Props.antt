-- That a ring is right has one proof at most, so a ghost field can hold it and give it back.
use Rattle.std.proofs.Common.{ℕ, Bool, ◌≢◌, List, [], ◌∷◌, length, ap}
use mathlib.Core.HLevel.{Π_prop, ×_prop, ×₃_prop, ¬_prop, Unit-prop, →_prop}
use native.Mathlib.Nat.{ℕ_set}
use native.Mathlib.Bridge.{le_prop}
use Rattle.links.specs.declared.Link.{Link}
use Rattle.links.specs.declared.Row.{Row}
use Rattle.links.specs.declared.Way.TheVariants.{Ahead, Back}
use Rattle.links.specs.Cell.{levels, view}
use Rattle.links.specs.Chain.{nearest, Each, Distinct, Away, Toward, Right, reach, at, Half}
use Rattle.links.specs.Ring.{Level, Tall, Ring}

link_set : IsSet Link
link_set k g p q i j = record { row = ℕ_set k.row g.row (ap (λ (x : Link). x.row) p) (ap (λ (x : Link). x.row) q) i j; count = ℕ_set k.count g.count (ap (λ (x : Link). x.count) p) (ap (λ (x : Link). x.count) q) i j }

each_prop : (P : ℕ → Type 0) → ((r : ℕ) → IsProp (P r)) → (rs : List ℕ) → IsProp (Each P rs)
each_prop P h [] = Unit-prop
each_prop P h (r ∷ rs) = ×_prop (h r) (each_prop P h rs)

distinct_prop : (rs : List ℕ) → IsProp (Distinct rs)
distinct_prop [] = Unit-prop
distinct_prop (r ∷ rs) = ×_prop (each_prop (λ x. x ≢ r) (λ x. ¬_prop) rs) (distinct_prop rs)

away_prop : (p : ℕ → Bool) (f : ℕ → Link) (rs : List ℕ) → IsProp (Away p f rs)
away_prop p f [] = Unit-prop
away_prop p f (r ∷ rs) = ×_prop (→_prop (link_set (f r) (nearest p rs))) (away_prop p f rs)

toward_prop : (p : ℕ → Bool) (f : ℕ → Link) (near rs : List ℕ) → IsProp (Toward p f near rs)
toward_prop p f near [] = link_set (f 0) (nearest p near)
toward_prop p f near (r ∷ rs) = ×_prop (→_prop (link_set (f r) (nearest p near))) (toward_prop p f (r ∷ near) rs)

right_prop : (p : ℕ → Bool) (f : ℕ → Link) (xs ys : List ℕ) → IsProp (Right p f xs ys)
right_prop p f xs ys = ×_prop (away_prop p f ys) (toward_prop p f ys xs)

half_prop : (size : ℕ) (xs ys : List ℕ) → IsProp (Half size xs ys)
half_prop size xs ys = ×_prop (each_prop _ (λ r. ×₃_prop le_prop le_prop (each_prop (λ y. y ≢ r) (λ y. ¬_prop) ys)) xs) (distinct_prop xs)

level_prop : (a : List Row) (l : ℕ) (xs ys : List ℕ) → IsProp (Level a l xs ys)
unfolding Level
level_prop a l xs ys = ×_prop (right_prop (reach (levels a) l) (at (view Ahead l a)) xs ys) (right_prop (reach (levels a) l) (at (view Back l a)) ys xs)

tall_prop : (ls : List ℕ) (r : ℕ) → IsProp (Tall ls r)
tall_prop ls r = ×₃_prop le_prop le_prop le_prop

pub ring_prop : (a : List Row) (xs ys : List ℕ) → IsProp (Ring a xs ys)
ring_prop a xs ys g h i = record {
  sound = ×_prop (half_prop (length (levels a)) xs ys) (half_prop (length (levels a)) ys xs) g.sound h.sound i;
  head_tall = tall_prop (levels a) 0 g.head_tall h.head_tall i;
  high_xs = each_prop (Tall (levels a)) (tall_prop (levels a)) xs g.high_xs h.high_xs i;
  high_ys = each_prop (Tall (levels a)) (tall_prop (levels a)) ys g.high_ys h.high_ys i;
  right = Π_prop (λ l. →_prop (level_prop a l xs ys)) g.right h.right i;
}
