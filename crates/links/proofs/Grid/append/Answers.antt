-- Why `append` keeps its contract.
use Rattle.std.proofs.Common.{[], refl, ◌∙◌, arith}
use Rattle.links.proofs.Inserts.{ending_sides, midway_step, midway_ends}
use Rattle.links.proofs.Grid.append.Goals as goal

pub thread-requires-clause-sides : goal.thread-requires-clause-sides
thread-requires-clause-sides c = (_, (_, ending_sides _ _ _ _ _ _ (c.loop-level.invariant.ending c.requires.0 c.requires.1) (omega arith) c.link-pre.ensures))

pub loop-level-preserved : goal.loop-level-preserved
loop-level-preserved c = record {
  ending = λ xs p.
      let m = c.loop-level.invariant.ending xs p in
      let s = ending_sides _ _ _ _ _ xs m (omega arith) c.link-pre.ensures in
      midway_step _ _ _ _ _ _ _ _ _ xs [] _ _ m c.thread.ensures.only (c.thread.ensures.put xs [] s (m.left _ (omega arith) (omega arith))) refl refl;
  levels_same = c.thread.ensures.only.levels_same ∙ c.loop-level.invariant.levels_same;
}

pub returns-clause-put : goal.returns-clause-put
returns-clause-put c xs p = midway_ends _ _ _ _ _ _ _ xs [] (omega arith) p (c.loop-level.invariant.ending xs p)
