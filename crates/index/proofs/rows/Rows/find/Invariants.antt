-- What the loop of `find` keeps from turn to turn.
use Rattle.std.proofs.Common.{ℕ, ◌^◌, ◌<◌, List, length}
use Rattle.index.specs.Index.{Indexed, homes, spot}
use Rattle.index.proofs.Chains.{Seek, Walk}
use Rattle.index.proofs.rows.Rows.find.Given as goal

abbrev pub invariant-loop-turn : goal.invariant-loop-turn
invariant-loop-turn g l = record {
  fits : l.row < 2 ^ 16;
  seek : (rows : List ℕ) → Indexed (homes g.K.Key.identity g.K.HashKey.hashed l.keys) l.self.slots.now (length l.keys) l.self.free rows → Seek g.K.Key.identity l.keys l.self.slots.now l.key rows l.row l._turn;
  walk : (home : ℕ → ℕ) (rows : List ℕ) → Indexed home l.self.slots.now (length l.keys) l.self.free rows →
      Walk home l.self.slots.now (length l.keys) (spot g.K.HashKey.hashed (length l.keys) (g.K.Key.identity l.key)) rows l.row;
}
