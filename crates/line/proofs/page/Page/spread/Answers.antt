-- One number after another, each after a space.
use Rattle.std.proofs.lemmas.List.{take_more}
use Rattle.line.proofs.Adding.{puts_more}
use Rattle.line.proofs.Lists.{spread_push}
use Rattle.line.proofs.page.Page.spread.Goals as goal

pub loop-number-preserved : goal.loop-number-preserved
loop-number-preserved c =
    rw (take_more c.args.numbers.now c.loop-number.number-index 0 c.loop-number-test.true, spread_push)
    (puts_more _ c.loop-number.self _ _ _ c.loop-number.invariant (puts_more _ _ _ _ _ c.byte.ensures c.number.ensures))
