-- The set without a class holds none.
use Rattle.std.proofs.Common.{refl, arith}
use Rattle.book.proofs.Classes.{holds_none}
use Rattle.book.proofs.rule.make.class_set.Goals as goal

pub loop-class-init : goal.loop-class-init
loop-class-init c = (refl, (λ i k lt. absurd (omega arith)), λ k held. absurd (holds_none 26 k held))
