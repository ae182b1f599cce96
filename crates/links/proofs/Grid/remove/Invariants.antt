-- What the loop of `remove` keeps from turn to turn.
use Rattle.std.proofs.Common.{◌≡◌, ℕ, List, ◌∷◌}
use Rattle.links.specs.Cell.{laid, levels}
use Rattle.links.specs.Ring.{Standing}
use Rattle.links.proofs.Inserts.{Rising}
use Rattle.links.proofs.Grid.remove.Given as goal

abbrev pub invariant-loop-level : goal.invariant-loop-level
invariant-loop-level l = record {
  rising : (xs ys : List ℕ) → Standing (laid l.initial.self) xs l.row ys →
      Rising (laid l.initial.self) (laid l.self) l.level l.row l.pre xs ys (l.row ∷ ys) ys;
  levels_same : levels (laid l.self) ≡ levels (laid l.initial.self);
}
