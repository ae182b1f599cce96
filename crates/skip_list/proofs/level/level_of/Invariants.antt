-- What the loop of `level_of` keeps from turn to turn.
use Rattle.std.proofs.Common.{◌≡◌, ◌+◌, take}
use Rattle.skip_list.specs.Level.{limits, exceeding}
use Rattle.skip_list.proofs.level.level_of.Given as goal

abbrev pub invariant-loop-limit : goal.invariant-loop-limit
invariant-loop-limit l = l.level ≡ 1 + exceeding l.draw (take l.limit-index limits)
