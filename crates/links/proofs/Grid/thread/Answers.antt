-- Why `thread` keeps its contract.
use Rattle.std.proofs.Common.{◌<◌, subst, arith}
use Rattle.links.proofs.Rings.{sides_fit, threads_in, threads_over}
use Rattle.links.proofs.Grid.thread.Goals as goal

pub set_both-requires-clause-pre : goal.set_both-requires-clause-pre
set_both-requires-clause-pre c = (sides_fit _ _ _ _ _ _ _ c.requires.sides.1.1).0

pub set_both-requires-clause-suc : goal.set_both-requires-clause-suc
set_both-requires-clause-suc c = (sides_fit _ _ _ _ _ _ _ c.requires.sides.1.1).1

pub overflow_add-count : goal.overflow_add-count
overflow_add-count c = omega (arith, (sides_fit _ _ _ _ _ _ _ c.requires.sides.1.1).3)

pub join-requires-clause-pre : goal.join-requires-clause-pre
join-requires-clause-pre c = (sides_fit _ _ _ _ _ _ _ c.requires.sides.1.1).0

pub join-requires-clause-suc : goal.join-requires-clause-suc
join-requires-clause-suc c = (sides_fit _ _ _ _ _ _ _ c.requires.sides.1.1).1

pub returns-then-level-level_of-clause-put : goal.returns-then-level-level_of-clause-put
returns-then-level-level_of-clause-put c xs ys s h =
    threads_in _ _ _ _ _ _ _ xs ys s (subst (λ n. c.args.level < n) c.level_of.ensures c.if-level-level_of.true) c.set_both.ensures c.set_both-then-level-level_of.ensures h

pub returns-else-level-level_of-clause-put : goal.returns-else-level-level_of-clause-put
returns-else-level-level_of-clause-put c xs ys s h =
    threads_over _ _ _ _ _ _ xs ys s (omega (arith, c.level_of.ensures, c.if-level-level_of.false)) c.join.ensures h
