-- Why `raise` keeps its contract.
use Rattle.std.proofs.Common.{get_or, refl, ap, ◌∙◌, arith}
use Rattle.links.proofs.Heads.{some_row}
use Rattle.links.proofs.Levels.{rounds_step, ring_only}
use Rattle.links.proofs.Entries.{enters_place}
use Rattle.links.proofs.Grid.raise.Goals as goal

pub loop-fresh-preserved : goal.loop-fresh-preserved
loop-fresh-preserved c =
    let i = c.loop-fresh.invariant in
    let o = c.set_both.ensures.2 in
    record {
      kept = λ xs ys g. ring_only _ _ _ xs ys o (omega (arith, ap (λ x. get_or x 0 0) i.levels_same)) (i.kept xs ys g);
      levels_same = o.levels_same ∙ i.levels_same;
      rounds = rounds_step _ _ _ _ _ (some_row _ _) c.set_both.ensures i.rounds;
      height_is = i.height_is;
      above = omega arith;
    }

pub returns-clause-put : goal.returns-clause-put
returns-clause-put c k e =
    let i = c.loop-fresh.invariant in
    enters_place _ _ _ _ _ _ _ _ _ _ _ c.requires.holds e c.set_level.ensures c.level_of-height.ensures i.kept i.levels_same
    (λ m low lt. i.rounds m low (omega (arith, c.loop-fresh-test.false))) c.set_level-2.ensures c.max.ensures refl
