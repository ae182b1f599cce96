-- The set has the classes passed, and no other.
use Rattle.std.proofs.Common.{◌≡◌, ℕ, ◌<◌, length}
use Rattle.order.specs.Order.{At, Stands}
use Rattle.book.specs.Rules.{Holds, Letter}
use Rattle.book.proofs.rule.make.class_set.Given as goal

abbrev pub invariant-loop-class : goal.invariant-loop-class
invariant-loop-class l =
    (length l.set ≡ 26)
    × ((i c : ℕ) → i < l.class-index → At l.classes i c → Letter c × Holds l.set c)
    × ((c : ℕ) → Holds l.set c → Stands l.classes c)
