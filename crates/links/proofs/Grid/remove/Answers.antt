-- Why `remove` keeps its contract.
use Rattle.std.proofs.Common.{refl, ◌∙◌, arith}
use Rattle.links.proofs.Rings.{sides_fit, sides_some}
use Rattle.links.proofs.Inserts.{sinking_starts, sides_with, midway_step, leads_back, risen}
use Rattle.links.proofs.Enters.{rising_onto}
use Rattle.links.proofs.Grid.remove.Goals as goal

pub loop-level-init : goal.loop-level-init
loop-level-init c = record { rising = λ xs ys p. sinking_starts _ _ _ xs ys p.0 p.1 c.link-pre.ensures; levels_same = refl }

pub link-over-requires-clause-row : goal.link-over-requires-clause-row
link-over-requires-clause-row c = (sides_fit _ _ _ _ _ _ _ (c.loop-level.invariant.rising c.requires.0 c.requires.1.0 c.requires.1.1).sides).0

pub unthread-requires-clause-sides : goal.unthread-requires-clause-sides
unthread-requires-clause-sides c =
    let m = c.loop-level.invariant.rising c.requires.0 c.requires.1.0 c.requires.1.1 in
    let o = rising_onto _ _ _ _ _ _ _ _ m.sides (m.left _ (omega arith) (omega arith)) c.link-over.ensures in
    (_, (_, (_, sides_with _ _ _ _ _ _ _ _ m.sides (c.beyond-suc.ensures _ _ _ o))))

pub climb-pre-requires-clause-leads : goal.climb-pre-requires-clause-leads
climb-pre-requires-clause-leads c =
    let xs = c.requires.0 in
    let ys = c.requires.1.0 in
    let m = c.loop-level.invariant.rising xs ys c.requires.1.1 in
    let h = m.left _ (omega arith) (omega arith) in
    let s = sides_with _ _ _ _ _ _ _ _ m.sides (c.beyond-suc.ensures _ _ _ (rising_onto _ _ _ _ _ _ _ _ m.sides h c.link-over.ensures)) in
    (xs, leads_back _ _ _ _ _ _ xs ys _ s c.unthread.ensures.only.levels_same (c.unthread.ensures.put _ xs ys s h))

pub loop-level-preserved : goal.loop-level-preserved
loop-level-preserved c = record {
  rising = λ xs ys p.
      let m = c.loop-level.invariant.rising xs ys p in
      let h = m.left _ (omega arith) (omega arith) in
      let s = sides_with _ _ _ _ _ _ _ _ m.sides (c.beyond-suc.ensures _ _ _ (rising_onto _ _ _ _ _ _ _ _ m.sides h c.link-over.ensures)) in
      let t = c.unthread.ensures.put _ xs ys s h in
      midway_step _ _ _ _ _ _ _ _ _ xs ys _ _ m c.unthread.ensures.only t
      (c.climb-pre.ensures xs (leads_back _ _ _ _ _ _ xs ys _ s c.unthread.ensures.only.levels_same t)) refl;
  levels_same = c.unthread.ensures.only.levels_same ∙ c.loop-level.invariant.levels_same;
}

pub overflow_sub-result : goal.overflow_sub-result
overflow_sub-result c = sides_some _ _ _ _ _ _ _ (c.loop-level.invariant.rising c.requires.0 c.requires.1.0 c.requires.1.1).sides

pub returns-clause-place : goal.returns-clause-place
returns-clause-place c xs ys p = omega (arith, risen _ _ _ _ _ xs ys (c.loop-level.invariant.rising xs ys p) (omega arith) p.0)
