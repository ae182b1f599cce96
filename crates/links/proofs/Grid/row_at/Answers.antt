-- Why `row_at` keeps its contract.
use Rattle.std.proofs.Common.{refl, arith}
use Rattle.links.proofs.Heads.{some_row}
use Rattle.links.proofs.Descents.{near_row, stop_head}
use Rattle.links.proofs.Enters.{less, ring_nears, ring_onto, onto_row, onto_met, stop_again}
use Rattle.links.proofs.Grid.row_at.Goals as goal

pub loop-level-init : goal.loop-level-init
loop-level-init c xs r ys g e = (stop_head _ xs _ refl (omega (arith, e)), omega (arith, c.level_of-level.ensures, g.head_tall.0))

pub approach-pre-requires-clause-nears : goal.approach-pre-requires-clause-nears
approach-pre-requires-clause-nears c =
    let p = c.requires.1.1.1 in
    let i = c.loop-level.invariant c.requires.0 c.requires.1.0 c.requires.1.1.0 p.0.0 p.1 in
    (_, (_, ring_nears _ _ _ _ _ _ p.0.0 (less _ c.loop-level-test.true) (omega arith) i.0))

pub link-over-requires-clause-row : goal.link-over-requires-clause-row
link-over-requires-clause-row c =
    let p = c.requires.1.1.1 in
    let i = c.loop-level.invariant c.requires.0 c.requires.1.0 c.requires.1.1.0 p.0.0 p.1 in
    let h = ring_nears _ _ _ _ _ _ p.0.0 (less _ c.loop-level-test.true) (omega arith) i.0 in
    near_row _ _ _ _ (some_row _ _) h.1 (c.approach-pre.ensures _ _ h)

pub returns-then-over-pre : goal.returns-then-over-pre
returns-then-over-pre c xs r ys g e =
    let i = c.loop-level.invariant xs r ys g e in
    let is = c.approach-pre.ensures _ _ (ring_nears _ _ _ _ _ _ g (less _ c.loop-level-test.true) (omega arith) i.0) in
    (onto_row _ _ _ _ _ xs ys (ring_onto _ _ _ _ _ xs ys g (omega arith) is c.link-over.ensures) c.if-over-pre.true).0

pub loop-level-preserved : goal.loop-level-preserved
loop-level-preserved c xs r ys g e =
    let i = c.loop-level.invariant xs r ys g e in
    let is = c.approach-pre.ensures _ _ (ring_nears _ _ _ _ _ _ g (less _ c.loop-level-test.true) (omega arith) i.0) in
    let o = ring_onto _ _ _ _ _ xs ys g (omega arith) is c.link-over.ensures in
    let ne = onto_met _ _ _ _ _ xs ys o g.high_ys.0.0 c.if-over-pre.false in
    (stop_again _ xs _ is, omega (arith, ne))
