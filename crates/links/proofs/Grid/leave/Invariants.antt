-- What the loop of `leave` keeps from turn to turn.
use Rattle.std.proofs.Common.{◌≡◌, ℕ, ◌+◌, List, ◌∷◌, length}
use Rattle.links.specs.Cell.{laid, levels}
use Rattle.links.specs.Ring.{Standing}
use Rattle.links.proofs.Enters.{Descent}
use Rattle.links.proofs.Grid.leave.Given as goal

abbrev pub invariant-loop-level : goal.invariant-loop-level
invariant-loop-level l = record {
  descent : (n : ℕ) (xs ys : List ℕ) → Standing (laid l.initial.self) xs n ys × (l.initial.pre.count ≡ length xs + 1) →
      Descent (laid l.initial.self) (laid l.self) l.level n l.pre xs ys (n ∷ ys) ys × (l.level ≡ 0 → l.row ≡ n);
  levels_same : levels (laid l.self) ≡ levels (laid l.initial.self);
}
