-- Why `leading_to` keeps its contract.
use Rattle.std.proofs.Common.{inl, inr, arith}
use Rattle.index.proofs.Cut.{going_on, going_there, going_never}
use Rattle.index.proofs.rows.Rows.leading_to.Goals as goal
use Rattle.index.proofs.rows.Rows.leading_to.Goals.{then-here-row-via-then-here-row, then-here-row-via-else-here-row+then-here-n}

pub returns-then-here-row : goal.returns-then-here-row
returns-then-here-row g c =
    record {
      low = c.loop-turn.invariant.low;
      leads = λ trail run ahead short.
          let k = c.loop-turn.invariant.going trail run ahead short in
          elim c.then-here-row.branch [
            | then-here-row-via-then-here-row w ↦ going_there _ _ c.args.head c.args.row trail _ _ w.if-here-row.true k
            | then-here-row-via-else-here-row+then-here-n w ↦ absurd (going_never _ _ c.args.head c.args.row trail _ _ (inl w.if-here-n.true) k)
          ];
    }

pub loop-turn-preserved : goal.loop-turn-preserved
loop-turn-preserved g c = record {
  low = omega arith;
  going = λ trail run ahead short. going_on _ _ c.args.head c.args.row trail _ _ c.if-here-row.false c.if-here-n.false (c.loop-turn.invariant.going trail run ahead short);
}

pub returns : goal.returns
returns g c =
    record {
      low = c.loop-turn.invariant.low;
      leads = λ trail run ahead short. absurd (going_never _ _ c.args.head c.args.row trail _ _ (inr c.loop-turn-test.false) (c.loop-turn.invariant.going trail run ahead short));
    }
