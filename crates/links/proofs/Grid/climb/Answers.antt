-- Why `climb` keeps its contract.
use Rattle.std.proofs.Common.{◌+◌, ◌<◌, subst, inl, inr, arith, lt-ltb}
use Rattle.links.proofs.Heads.{some_row}
use Rattle.links.proofs.Climbs.{climb_row, climb_step, climb_ends}
use Rattle.links.proofs.Grid.climb.Goals as goal

pub level_of-requires : goal.level_of-requires
level_of-requires c = (climb_row _ _ _ c.requires.leads.0 c.loop-link.link (some_row _ _) (c.loop-link.invariant c.requires.leads.0 c.requires.leads.1))

pub link-step-requires-clause-row : goal.link-step-requires-clause-row
link-step-requires-clause-row c = climb_row _ _ _ c.requires.leads.0 c.loop-link.link (some_row _ _) (c.loop-link.invariant c.requires.leads.0 c.requires.leads.1)

pub overflow_add-link : goal.overflow_add-link
overflow_add-link c =
    let s = climb_step _ _ _ c.requires.leads.0 c.loop-link.link c.link-step.result _ (c.loop-link.invariant c.requires.leads.0 c.requires.leads.1) c.loop-link-test.true c.level_of.ensures c.if-level_of-level.true c.link-step.ensures in
    omega (arith, s.1, c.requires.leads.1.2)

pub loop-link-smaller : goal.loop-link-smaller
loop-link-smaller c =
    let s = climb_step _ _ _ c.requires.leads.0 c.loop-link.link c.link-step.result _ (c.loop-link.invariant c.requires.leads.0 c.requires.leads.1) c.loop-link-test.true c.level_of.ensures c.if-level_of-level.true c.link-step.ensures in
    omega (arith, s.1, s.2, c.requires.leads.1.2)

pub loop-link-preserved : goal.loop-link-preserved
loop-link-preserved c far h =
    (climb_step _ _ _ far c.loop-link.link c.link-step.result _ (c.loop-link.invariant far h) c.loop-link-test.true c.level_of.ensures c.if-level_of-level.true c.link-step.ensures).0

pub returns-else-level_of-level : goal.returns-else-level_of-level
returns-else-level_of-level c far h =
    climb_ends _ _ _ far c.loop-link.link (c.loop-link.invariant far h)
    (inr (lt-ltb _ _ (subst (λ n. c.args.level + 1 < n) c.level_of.ensures c.if-level_of-level.false)))

pub returns-after-loop-link : goal.returns-after-loop-link
returns-after-loop-link c far h = climb_ends _ _ _ far c.loop-link.link (c.loop-link.invariant far h) (inl c.loop-link-test.false)
