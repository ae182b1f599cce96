-- Why `approach` keeps its contract.
use Rattle.std.proofs.Common.{arith}
use Rattle.links.proofs.Heads.{some_row}
use Rattle.links.proofs.Descents.{approach_step, stop_row}
use Rattle.links.proofs.Grid.approach.Goals as goal

pub link-over-requires-clause-row : goal.link-over-requires-clause-row
link-over-requires-clause-row c = let h = c.requires.nears.1.1 in stop_row _ _ c.requires.nears.0 _ (some_row _ _) h.1 h.2

pub link-over-requires-in-loop-over-clause-row : goal.link-over-requires-in-loop-over-clause-row
link-over-requires-in-loop-over-clause-row c =
    let h = c.requires.nears.1.1 in
    let s = c.loop-over.invariant.1 c.requires.nears.0 c.requires.nears.1.0 h in
    stop_row _ _ c.requires.nears.0 _ (some_row _ _) h.1 ((approach_step _ _ _ _ _ _ _ _ h s c.loop-over.invariant.0).1.0 c.loop-over-test.true)

pub loop-over-smaller : goal.loop-over-smaller
loop-over-smaller c =
    let h = c.requires.nears.1.1 in
    let s = c.loop-over.invariant.1 c.requires.nears.0 c.requires.nears.1.0 h in
    omega (arith, (approach_step _ _ _ _ _ _ _ _ h s c.loop-over.invariant.0).0, c.loop-over-test.true)

pub loop-over-preserved : goal.loop-over-preserved
loop-over-preserved c = (
  c.link-over-in-loop-over.ensures,
  (λ xs ys h. (approach_step _ _ _ _ _ _ _ _ h (c.loop-over.invariant.1 xs ys h) c.loop-over.invariant.0).1.0 c.loop-over-test.true),
)

pub returns : goal.returns
returns c xs ys h = (approach_step _ _ _ _ _ _ _ _ h (c.loop-over.invariant.1 xs ys h) c.loop-over.invariant.0).1.1 c.loop-over-test.false
