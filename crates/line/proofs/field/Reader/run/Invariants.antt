-- The state that the word leads to, and what comes after the word, stay as the reader goes on.
use Rattle.std.proofs.Common.{◌≡◌, length}
use Rattle.line.specs.States.{walked}
use Rattle.line.specs.Words.{word, rest}
use Rattle.line.proofs.field.Reader.run.Given as goal

abbrev pub invariant-loop-self : goal.invariant-loop-self
invariant-loop-self l =
    (walked l.self.state (word l.self.left.now) ≡ walked l.initial.self.state (word l.initial.self.left.now))
    × (rest l.self.left.now ≡ rest l.initial.self.left.now)

abbrev pub decreases-loop-self : goal.decreases-loop-self
decreases-loop-self l = length l.self.left.now
