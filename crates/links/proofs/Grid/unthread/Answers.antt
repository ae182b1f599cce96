-- Why `unthread` keeps its contract.
use Rattle.std.proofs.Common.{arith}
use Rattle.links.proofs.Rings.{sides_fit, sides_some, unthreads}
use Rattle.links.proofs.Grid.unthread.Goals as goal

pub overflow_add-count : goal.overflow_add-count
overflow_add-count c = omega (arith, (sides_fit _ _ _ _ _ _ _ c.requires.sides.1.1.1).3)

pub overflow_sub-count : goal.overflow_sub-count
overflow_sub-count c = omega (arith, sides_some _ _ _ _ _ _ _ c.requires.sides.1.1.1)

pub join-requires-clause-pre : goal.join-requires-clause-pre
join-requires-clause-pre c = (sides_fit _ _ _ _ _ _ _ c.requires.sides.1.1.1).0

pub join-requires-clause-suc : goal.join-requires-clause-suc
join-requires-clause-suc c = (sides_fit _ _ _ _ _ _ _ c.requires.sides.1.1.1).1

pub returns-clause-put : goal.returns-clause-put
returns-clause-put c n xs ys s h = unthreads _ _ _ _ _ _ xs ys s c.join.ensures h
