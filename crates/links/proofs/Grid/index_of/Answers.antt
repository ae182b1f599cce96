-- Why `index_of` keeps its contract.
use Rattle.std.proofs.Common.{arith}
use Rattle.links.proofs.Splits.{counted_row, counted_step}
use Rattle.links.proofs.Grid.index_of.Goals as goal

pub loop-here-smaller : goal.loop-here-smaller
loop-here-smaller c =
    let h = c.loop-here.invariant c.requires.0 c.requires.1.0 c.requires.1.1.0 in
    let r = counted_row _ _ _ _ h c.loop-here-test.true in
    let s = counted_step _ _ _ _ _ _ h c.loop-here-test.true c.level_of.ensures c.link-link.ensures in
    omega (arith, r.2, s.1, c.requires.1.1.1)

pub loop-here-preserved : goal.loop-here-preserved
loop-here-preserved c xs ys g = (counted_step _ _ _ _ _ _ (c.loop-here.invariant xs ys g) c.loop-here-test.true c.level_of.ensures c.link-link.ensures).0
