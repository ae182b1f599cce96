-- Why `enter` keeps its contract.
use Rattle.std.proofs.Common.{refl, ◌∙◌, arith}
use Rattle.links.proofs.Heads.{some_row}
use Rattle.links.proofs.Descents.{near_row}
use Rattle.links.proofs.Enters.{less, descent_starts, descent_nears, descent_sides, descent_step, descent_ends}
use Rattle.links.proofs.Grid.enter.Goals as goal

pub loop-level-init : goal.loop-level-init
loop-level-init c = record { descent = λ xs ys p. descent_starts _ _ _ _ xs ys c.level_of-level.ensures p; levels_same = refl }

pub approach-pre-requires-clause-nears : goal.approach-pre-requires-clause-nears
approach-pre-requires-clause-nears c =
    let d = c.loop-level.invariant.descent c.requires.0 c.requires.1.0 c.requires.1.1 in
    (_, (_, descent_nears _ _ _ _ _ _ _ _ _ _ d (less _ c.loop-level-test.true)))

pub link-over-requires-clause-row : goal.link-over-requires-clause-row
link-over-requires-clause-row c =
    let d = c.loop-level.invariant.descent c.requires.0 c.requires.1.0 c.requires.1.1 in
    let h = descent_nears _ _ _ _ _ _ _ _ _ _ d (less _ c.loop-level-test.true) in
    near_row _ _ _ _ (some_row _ _) h.1 (c.approach-pre.ensures _ _ h)

pub overflow_add-suc : goal.overflow_add-suc
overflow_add-suc c =
    let d = c.loop-level.invariant.descent c.requires.0 c.requires.1.0 c.requires.1.1 in
    let h = descent_nears _ _ _ _ _ _ _ _ _ _ d (less _ c.loop-level-test.true) in
    omega (arith, (descent_sides _ _ _ _ _ _ _ _ _ _ _ d (less _ c.loop-level-test.true) (c.approach-pre.ensures _ _ h) c.link-over.ensures).1)

pub overflow_sub-suc : goal.overflow_sub-suc
overflow_sub-suc c =
    let d = c.loop-level.invariant.descent c.requires.0 c.requires.1.0 c.requires.1.1 in
    let h = descent_nears _ _ _ _ _ _ _ _ _ _ d (less _ c.loop-level-test.true) in
    (descent_sides _ _ _ _ _ _ _ _ _ _ _ d (less _ c.loop-level-test.true) (c.approach-pre.ensures _ _ h) c.link-over.ensures).2

pub thread-requires-clause-sides : goal.thread-requires-clause-sides
thread-requires-clause-sides c =
    let d = c.loop-level.invariant.descent c.requires.0 c.requires.1.0 c.requires.1.1 in
    let h = descent_nears _ _ _ _ _ _ _ _ _ _ d (less _ c.loop-level-test.true) in
    (_, (_, (descent_sides _ _ _ _ _ _ _ _ _ _ _ d (less _ c.loop-level-test.true) (c.approach-pre.ensures _ _ h) c.link-over.ensures).0))

pub loop-level-preserved : goal.loop-level-preserved
loop-level-preserved c = record {
  descent = λ xs ys p.
      let d = c.loop-level.invariant.descent xs ys p in
      let e = less _ c.loop-level-test.true in
      let is = c.approach-pre.ensures _ _ (descent_nears _ _ _ _ _ _ _ _ _ _ d e) in
      let s = descent_sides _ _ _ _ _ _ _ _ _ _ _ d e is c.link-over.ensures in
      descent_step _ _ _ _ _ _ _ _ xs ys _ _ d e c.thread.ensures.only (c.thread.ensures.put xs ys s.0 (d.left _ (omega arith))) is;
  levels_same = c.thread.ensures.only.levels_same ∙ c.loop-level.invariant.levels_same;
}

pub returns-clause-put : goal.returns-clause-put
returns-clause-put c xs ys p = descent_ends _ _ _ _ _ _ xs ys c.loop-level-test.false p.0 (c.loop-level.invariant.descent xs ys p)
