-- What the loop of `climb` keeps from turn to turn.
use Rattle.std.proofs.Common.{ℕ, ◌-◌, List}
use Rattle.links.specs.Cell.{laid, levels, view}
use Rattle.links.specs.Chain.{limit, Leads}
use Rattle.links.proofs.Climbs.{Climbed}
use Rattle.links.proofs.Grid.climb.Given as goal

abbrev pub invariant-loop-link : goal.invariant-loop-link
invariant-loop-link l = (far : List ℕ) → Leads (levels (laid l.self)) (view l.way l.level (laid l.self)) l.level far l.initial.link →
    Climbed (levels (laid l.self)) (view l.way l.level (laid l.self)) l.level far l.link

abbrev pub decreases-loop-link : goal.decreases-loop-link
decreases-loop-link l = limit - l.link.count
