-- What the loop of `enter` keeps from turn to turn.
use Rattle.std.proofs.Common.{◌≡◌, ℕ, ◌+◌, List, ◌∷◌, length}
use Rattle.links.specs.Cell.{laid, levels}
use Rattle.links.specs.Ring.{Place, first}
use Rattle.links.proofs.Enters.{Descent}
use Rattle.links.proofs.Grid.enter.Given as goal

abbrev pub invariant-loop-level : goal.invariant-loop-level
invariant-loop-level l = record {
  descent : (xs ys : List ℕ) → Place (laid l.initial.self) (first xs) l.new xs ys × (l.initial.pre.count ≡ length xs + 1) →
      Descent (laid l.initial.self) (laid l.self) l.level l.new l.pre xs ys ys (l.new ∷ ys);
  levels_same : levels (laid l.self) ≡ levels (laid l.initial.self);
}
