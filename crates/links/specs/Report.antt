-- Which rows the links of a level lead through, and what their counts come to.
use Rattle.std.specs.Prelude.{◌≡◌, ℕ, zero, suc, ◌+◌, ◌<◌, Bool, cond, List, [], ◌∷◌, ◌++◌, length, slice_index}
use Rattle.links.specs.declared.Link.{Link}
use Rattle.links.specs.declared.Row.{Row}
use Rattle.links.specs.declared.Way.TheVariants.{Ahead, Back}
use Rattle.links.specs.Cell.{levels, view}
use Rattle.links.specs.Chain.{reach, at}
use Rattle.links.specs.Ring.{Holds, order, turned, walk}

-- the rows of a list that pass
abbrev pub those : (ℕ → Bool) → List ℕ → List ℕ
those p [] = []
those p (r ∷ rs) = cond (p r) (r ∷ those p rs) (those p rs)

-- the counts of n links from row r on, and of the one after them, added up
abbrev pub total : (ℕ → Link) → ℕ → ℕ → ℕ
total f zero r = (f r).count
total f (suc n) r = (f r).count + total f n (f r).row

-- At each level, the links ahead from the head lead through the rows that are that high, in order, and then to none; the links back from
-- the end lead through those of the order turned round, and then to none; the counts of either come to one more than the length.
abbrev pub LevelsLead : Type 0
LevelsLead = (a : List Row) (n l : ℕ) → Holds a n → l < slice_index (levels a) 0 →
    (walk (at (view Ahead l a)) (suc (length (those (reach (levels a) l) (order a n)))) 0 ≡ those (reach (levels a) l) (order a n) ++ 0 ∷ [])
    × (walk (at (view Back l a)) (suc (length (those (reach (levels a) l) (turned (order a n) [])))) 0 ≡ those (reach (levels a) l) (turned (order a n) []) ++ 0 ∷ [])
    × (total (at (view Ahead l a)) (length (those (reach (levels a) l) (order a n))) 0 ≡ n + 1)
    × (total (at (view Back l a)) (length (those (reach (levels a) l) (turned (order a n) []))) 0 ≡ n + 1)
    × (those (reach (levels a) l) (turned (order a n) []) ≡ turned (those (reach (levels a) l) (order a n)) [])
