-- What the loop of `append` keeps from turn to turn.
use Rattle.std.proofs.Common.{◌≡◌, ℕ, List, []}
use Rattle.links.specs.Cell.{laid, levels}
use Rattle.links.specs.Ring.{Place, first}
use Rattle.links.proofs.Inserts.{Ending}
use Rattle.links.proofs.Grid.append.Given as goal

abbrev pub invariant-loop-level : goal.invariant-loop-level
invariant-loop-level l = record {
  ending : (xs : List ℕ) → Place (laid l.initial.self) (first xs) l.new xs [] → Ending (laid l.initial.self) (laid l.self) l.level l.new xs;
  levels_same : levels (laid l.self) ≡ levels (laid l.initial.self);
}
