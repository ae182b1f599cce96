-- What the loop of `index_of` keeps from turn to turn.
use Rattle.std.proofs.Common.{ℕ, ◌-◌, List, ◌∷◌}
use Rattle.links.specs.Chain.{limit}
use Rattle.links.specs.Cell.{laid}
use Rattle.links.specs.Ring.{Ring}
use Rattle.links.proofs.Splits.{Counted}
use Rattle.links.proofs.Grid.index_of.Given as goal

abbrev pub invariant-loop-here : goal.invariant-loop-here
invariant-loop-here l = (xs ys : List ℕ) → Ring (laid l.self) xs (l.initial.here ∷ ys) → Counted (laid l.self) xs l.here l.count

abbrev pub decreases-loop-here : goal.decreases-loop-here
decreases-loop-here l = limit - l.count
