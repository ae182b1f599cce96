-- Why `remove_at` keeps its contract.
use Rattle.std.proofs.Common.{arith}
use Rattle.links.proofs.Orders.{held, here_at, one_less}
use Rattle.links.proofs.Rows.remove_at.Goals as goal

pub leave-row-requires : goal.leave-row-requires
leave-row-requires c =
    let h = here_at _ _ _ c.requires (held _ _ c.args.self.now.holds) in
    (_, (_, (_, ((h.0, h.2), omega (arith, h.1)))))

pub invariant_of-self : goal.invariant_of-self
invariant_of-self c =
    let o = held _ _ c.args.self.now.holds in
    let h = here_at _ _ _ c.requires o in
    record { holds = ∣ (one_less _ _ _ _ c.requires o (c.leave-row.ensures.put _ _ _ ((h.0, h.2), omega (arith, h.1)))).0 ∣₁ }

pub returns-clause-row : goal.returns-clause-row
returns-clause-row c =
    let h = here_at _ _ _ c.requires (held _ _ c.args.self.now.holds) in
    c.leave-row.ensures.row _ _ _ ((h.0, h.2), omega (arith, h.1))

pub returns-clause-order : goal.returns-clause-order
returns-clause-order c =
    let o = held _ _ c.args.self.now.holds in
    let h = here_at _ _ _ c.requires o in
    (one_less _ _ _ _ c.requires o (c.leave-row.ensures.put _ _ _ ((h.0, h.2), omega (arith, h.1)))).1
