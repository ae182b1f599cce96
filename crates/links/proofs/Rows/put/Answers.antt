-- Why `put` keeps its contract.
use Rattle.links.proofs.Orders.{held}
use Rattle.links.proofs.Entries.{one_more}
use Rattle.links.proofs.Rows.put.Goals as goal

pub insert-requires-clause-holds : goal.insert-requires-clause-holds
insert-requires-clause-holds c = held _ _ c.args.self.now.holds

pub invariant_of-self : goal.invariant_of-self
invariant_of-self c = record { holds = ∣ (one_more _ _ _ _ _ _ c.requires c.insert.ensures.ring).0 ∣₁ }

pub returns-clause-order : goal.returns-clause-order
returns-clause-order c = (one_more _ _ _ _ _ _ c.requires c.insert.ensures.ring).1
