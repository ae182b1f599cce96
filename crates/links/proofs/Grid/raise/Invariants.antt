-- What the loop of `raise` keeps from turn to turn.
use Rattle.std.proofs.Common.{◌≡◌, ℕ, ◌≤◌, List, get_or}
use Rattle.links.specs.Cell.{laid, levels}
use Rattle.links.specs.Ring.{Ring}
use Rattle.links.proofs.Levels.{Rounds}
use Rattle.links.proofs.Grid.raise.Given as goal

abbrev pub invariant-loop-fresh : goal.invariant-loop-fresh
invariant-loop-fresh l = record {
  kept : (xs ys : List ℕ) → Ring (laid l.initial.self) xs ys → Ring (laid l.self) xs ys;
  levels_same : levels (laid l.self) ≡ levels (laid l.initial.self);
  rounds : Rounds (laid l.self) l.height l.fresh l.around;
  height_is : l.height ≡ get_or (levels (laid l.initial.self)) 0 0;
  above : l.height ≤ l.fresh;
}
