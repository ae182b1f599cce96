-- The turns passed have made the history longer, and every call stands as it was.
use Rattle.std.proofs.Common.{◌≡◌, List, ◌++◌, map, take}
use Rattle.book.specs.declared.call.Turn.{Turn}
use Rattle.book.specs.Calls.{called}
use Rattle.book.specs.Law.{Follows}
use Rattle.book.specs.Yards.{Board, board}
use Rattle.book.proofs.panel.Panel.run.Given as goal

abbrev pub invariant-loop-turn : goal.invariant-loop-turn
invariant-loop-turn g l = record {
  calls : map called l.script ≡ map called l.initial.script;
  follows : (start : Board) (h : List Turn) → Follows start h (board g.R.OrderedSet g.Y.OrderedSet l.initial.self)
      → Follows start (h ++ take l.turn-index l.script) (board g.R.OrderedSet g.Y.OrderedSet l.self);
}
