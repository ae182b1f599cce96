-- What the loop of `approach` keeps from turn to turn.
use Rattle.std.proofs.Common.{◌≡◌, ℕ, List}
use Rattle.links.specs.declared.Way.TheVariants.{Ahead}
use Rattle.links.specs.Cell.{laid, levels, view}
use Rattle.links.specs.Chain.{at, reach, Nears, Stop}
use Rattle.links.proofs.Grid.approach.Given as goal

abbrev pub invariant-loop-over : goal.invariant-loop-over
invariant-loop-over l = (l.over ≡ at (view Ahead l.level (laid l.self)) l.pre.row) ×
    ((xs ys : List ℕ) → Nears (levels (laid l.self)) (view Ahead l.level (laid l.self)) l.level xs ys l.initial.pre → Stop (reach (levels (laid l.self)) l.level) xs l.pre)

abbrev pub decreases-loop-over : goal.decreases-loop-over
decreases-loop-over l = l.pre.count
