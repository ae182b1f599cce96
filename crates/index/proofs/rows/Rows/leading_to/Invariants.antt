-- What the loop of `leading_to` keeps from turn to turn.
use Rattle.std.proofs.Common.{ℕ, ◌+◌, ◌<◌, ◌≤◌, List, length, get_or}
use Rattle.index.specs.Index.{Run, tally}
use Rattle.index.proofs.Cut.{Going}
use Rattle.index.proofs.rows.Rows.leading_to.Given as goal

abbrev pub invariant-loop-turn : goal.invariant-loop-turn
invariant-loop-turn g l = record {
  low : l.at < l.n + l.n;
  going : (trail : List ℕ) → Run l.self.slots.now l.n (get_or l.self.slots.now l.head 0) trail → 0 < tally l.row trail → length trail ≤ l.n → Going l.self.slots.now l.n l.head l.row trail l.at l._turn;
}
