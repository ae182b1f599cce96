-- What the loop of `row_at` keeps from turn to turn.
use Rattle.std.proofs.Common.{◌≡◌, ℕ, ◌<◌, List, ◌∷◌, length}
use Rattle.links.specs.Cell.{laid, levels}
use Rattle.links.specs.Chain.{reach, Stop}
use Rattle.links.specs.Ring.{Ring}
use Rattle.links.proofs.Grid.row_at.Given as goal

abbrev pub invariant-loop-level : goal.invariant-loop-level
invariant-loop-level l = (xs : List ℕ) (r : ℕ) (ys : List ℕ) → Ring (laid l.self) xs (r ∷ ys) → l.place ≡ length xs → Stop (reach (levels (laid l.self)) l.level) xs l.pre × (0 < l.level)
