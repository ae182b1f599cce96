-- Why `level_of` keeps its contract.
use Rattle.std.proofs.Common.{arith}
use Rattle.skip_list.specs.Level.{limits}
use Rattle.skip_list.proofs.Draws.{more_over, more_under}
use Rattle.skip_list.proofs.level.level_of.Goals as goal
use Rattle.skip_list.proofs.level.level_of.Goals.{then-draw-limit, else-draw-limit}

pub loop-limit-preserved : goal.loop-limit-preserved
loop-limit-preserved c =
    let i = c.loop-limit.limit-index in
    elim c.if-draw-limit.branch [
      | then-draw-limit w ↦ omega (arith, w.level-is, c.loop-limit.invariant, more_over c.args.draw limits i c.loop-limit-test.true w.if-draw-limit.true)
      | else-draw-limit w ↦ omega (arith, w.level-is, c.loop-limit.invariant, more_under c.args.draw limits i c.loop-limit-test.true w.if-draw-limit.false)
    ]
