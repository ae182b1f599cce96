-- A dialogue: lines one after the other, each with its printed answer, and the history of turns that they make.
--     Dialogue start past ts x  from start the exchanges past, the latest first, made the turns ts, the oldest first, and lead to x
--     opening r y rules yard    the stand of a new console over two sets
--     Vacant u                  no number stands in the order, and no train waits
use Rattle.std.specs.Prelude.{◌≡◌, ℕ, List, [], ◌∷◌, ◌++◌}
use Rattle.order.specs.declared.keys.RuleNumber.{RuleNumber}
use Rattle.order.specs.declared.keys.TrainTag.{TrainTag}
use Rattle.order.specs.declared.set.OrderedSet.{Ghosts}
use Rattle.book.specs.Yards.{opens}
use Rattle.book.specs.declared.call.Turn.{Turn}
use Rattle.line.specs.Replies.{Performs, Stand}

-- a line and its printed answer
pub record Exchange : Type 0 where
  pub line : List ℕ
  pub text : List ℕ

abbrev pub exchange : List ℕ → List ℕ → Exchange
exchange line text = record { line = line; text = text }

abbrev pub Dialogue : Stand → List Exchange → List Turn → Stand → Type 0
Dialogue start [] ts x = (ts ≡ []) × (x ≡ start)
Dialogue start (e ∷ past) ts x =
    (u : Stand) × (before : List Turn) × (made : List Turn)
    × Dialogue start past before u × Performs e.line e.text made u x × (ts ≡ before ++ made)

abbrev pub Vacant : Stand → Type 0
Vacant u = (u.board.book.numbers.order ≡ []) × (u.board.yard.order ≡ [])

-- over two sets, with no rules yet, and draws that start from 1
abbrev pub opening : {R Y : Type 0} → Ghosts R RuleNumber → Ghosts Y TrainTag → R → Y → Stand
opening r y rules yard = record { board = opens r y rules yard; state = 1 }
