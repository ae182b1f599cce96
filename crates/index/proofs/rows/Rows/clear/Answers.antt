-- Why `clear` keeps its contract.
use Rattle.std.proofs.Common.{refl, arith}
use Rattle.index.proofs.Clear.{cleared}
use Rattle.index.proofs.rows.Rows.clear.Goals as goal

pub returns-clause-chains : goal.returns-clause-chains
returns-clause-chains g c home =
    cleared home c.fill.new.self c.loop-row.onward _ (omega arith) (λ k h. c.fill.ensures.clones k 0 (omega arith) refl) (λ k h. c.loop-row.invariant k (omega arith))
