use Rattle.std.proofs.Common.{◌≡◌}
use Rattle.replay.proofs.script.Tally.compare.Given as goal

-- what is counted elsewhere stays
abbrev pub invariant-loop-report : goal.invariant-loop-report
invariant-loop-report l = (l.self.scripts ≡ l.initial.self.scripts) × (l.self.unread ≡ l.initial.self.unread)
