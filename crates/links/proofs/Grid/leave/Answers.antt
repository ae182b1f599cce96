-- Why `leave` keeps its contract.
use Rattle.std.proofs.Common.{refl, ◌∙◌, arith}
use Rattle.links.proofs.Heads.{some_row}
use Rattle.links.proofs.Descents.{near_row}
use Rattle.links.proofs.Enters.{less, leaves_starts, leaves_onto, leaves_sides, leaves_row, descent_nears, descent_step}
use Rattle.links.proofs.Grid.leave.Goals as goal

pub loop-level-init : goal.loop-level-init
loop-level-init c = record {
  descent = λ n xs ys p. (leaves_starts _ _ _ _ xs ys c.level_of-level.ensures p, (λ e. absurd (omega (arith, c.level_of-level.ensures, p.0.0.head_tall.0))));
  levels_same = refl;
}

pub approach-pre-requires-clause-nears : goal.approach-pre-requires-clause-nears
approach-pre-requires-clause-nears c =
    let d = (c.loop-level.invariant.descent c.requires.0 c.requires.1.0 c.requires.1.1.0 c.requires.1.1.1).0 in
    (_, (_, descent_nears _ _ _ _ _ _ _ _ _ _ d (less _ c.loop-level-test.true)))

pub link-over-requires-clause-row : goal.link-over-requires-clause-row
link-over-requires-clause-row c =
    let d = (c.loop-level.invariant.descent c.requires.0 c.requires.1.0 c.requires.1.1.0 c.requires.1.1.1).0 in
    let h = descent_nears _ _ _ _ _ _ _ _ _ _ d (less _ c.loop-level-test.true) in
    near_row _ _ _ _ (some_row _ _) h.1 (c.approach-pre.ensures _ _ h)

pub beyond-suc-requires-clause-onto : goal.beyond-suc-requires-clause-onto
beyond-suc-requires-clause-onto c =
    let d = (c.loop-level.invariant.descent c.requires.0 c.requires.1.0 c.requires.1.1.0 c.requires.1.1.1).0 in
    let e = less _ c.loop-level-test.true in
    let is = c.approach-pre.ensures _ _ (descent_nears _ _ _ _ _ _ _ _ _ _ d e) in
    (_, (_, (_, leaves_onto _ _ _ _ _ _ _ _ _ _ d e is c.link-over.ensures)))

pub unthread-requires-clause-sides : goal.unthread-requires-clause-sides
unthread-requires-clause-sides c =
    let d = (c.loop-level.invariant.descent c.requires.0 c.requires.1.0 c.requires.1.1.0 c.requires.1.1.1).0 in
    let e = less _ c.loop-level-test.true in
    let is = c.approach-pre.ensures _ _ (descent_nears _ _ _ _ _ _ _ _ _ _ d e) in
    let o = leaves_onto _ _ _ _ _ _ _ _ _ _ d e is c.link-over.ensures in
    (_, (_, (_, leaves_sides _ _ _ _ _ _ _ _ _ _ d is (c.beyond-suc.ensures _ _ _ o))))

pub loop-level-preserved : goal.loop-level-preserved
loop-level-preserved c = record {
  descent = λ n xs ys p.
      let d = (c.loop-level.invariant.descent n xs ys p).0 in
      let e = less _ c.loop-level-test.true in
      let is = c.approach-pre.ensures _ _ (descent_nears _ _ _ _ _ _ _ _ _ _ d e) in
      let o = leaves_onto _ _ _ _ _ _ _ _ _ _ d e is c.link-over.ensures in
      let s = leaves_sides _ _ _ _ _ _ _ _ _ _ d is (c.beyond-suc.ensures _ _ _ o) in (
        descent_step _ _ _ _ _ _ _ _ xs ys _ _ d e c.unthread.ensures.only (c.unthread.ensures.put n xs ys s (d.left _ (omega arith))) is,
        (λ z. leaves_row _ _ _ _ _ _ xs ys o z c.loop-level.invariant.levels_same p.0.0),
      );
  levels_same = c.unthread.ensures.only.levels_same ∙ c.loop-level.invariant.levels_same;
}
