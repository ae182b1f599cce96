-- What a call on a console answers and leaves.
--     stand r y p           the meaning of the console p, over sets with the ghost members r and y
--     Still ts              no call among the turns changed what the panel holds
--     Done r y p q a text   what is asked was done and is answered by the text
--     Answered ..           the line was done, its answer printed, and the law of routes goes on
use Rattle.std.specs.Prelude.{◌≡◌, ℕ, ◌<◌, ◌≤◌, true, List, ◌∷◌, ◌++◌, length, is_ok, Ok, Err, Result}
use Rattle.order.specs.Order.{At}
use Rattle.order.specs.declared.keys.RuleNumber.{RuleNumber}
use Rattle.order.specs.declared.keys.TrainTag.{TrainTag}
use Rattle.order.specs.declared.set.OrderedSet.{Ghosts}
use Rattle.book.specs.Calls.{still}
use Rattle.book.specs.Law.{GoesOn, RouteLaw}
use Rattle.book.specs.Yards.{Unmoved, board}
use Rattle.book.specs.declared.call.Turn.{Turn}
use Rattle.book.specs.declared.fault.BookFault.{BookFault}
use Rattle.line.specs.Answers.{printed}
use Rattle.line.specs.Grammar.{Asked}
use Rattle.line.specs.Printing.{fronted, lined}
use Rattle.line.specs.Replies.{Performs, Replies, Stand, drawing}
use Rattle.line.specs.Dialogues.{Exchange, Dialogue, Vacant, exchange}
use Rattle.line.specs.declared.answer.Answer.{Answer}
use Rattle.line.specs.declared.console.Console.{Console}
use Rattle.line.specs.declared.fault.LineFault.{LineFault}
use Rattle.line.specs.declared.fault.LineFault.TheVariants.{Book, SmallOut}

abbrev pub stand : {R Y : Type 0} → Ghosts R RuleNumber → Ghosts Y TrainTag → Console R Y → Stand
stand r y p = record { board = board r y p.panel; state = p.draws.state }

abbrev pub Still : List Turn → Type 0
Still ts = (i : ℕ) (t : Turn) → At ts i t → still t.answer ≡ true

-- the text of a result has room with a newline in 1,024 bytes
abbrev pub Brief : Result Answer LineFault → Type 0
Brief r = length (printed r) ≤ 1023

-- a refusal of the book, carried up to the line
abbrev pub climbing : Result Answer BookFault → Result Answer LineFault
climbing (Ok a) = Ok a
climbing (Err f) = Err (Book f)

-- what is asked was done, and its text has room with a newline in 1,024 bytes; where no call changed anything, only
-- what a last place remembers may differ
pub record Done {R Y : Type 0} (r : Ghosts R RuleNumber) (y : Ghosts Y TrainTag) (p q : Console R Y) (a : Asked) (text : List ℕ) : Type 0 where
  pub draws : q.draws.state ≡ drawing a p.draws.state
  pub turns : List Turn
  pub replies : Replies a q.draws.state text turns (board r y p.panel) (board r y q.panel)
  pub kept : Still turns → Unmoved r y p.panel q.panel
  pub brief : length text ≤ 1023

-- the same of a whole line
pub record Acted {R Y : Type 0} (r : Ghosts R RuleNumber) (y : Ghosts Y TrainTag) (p q : Console R Y) (line text : List ℕ) : Type 0 where
  pub turns : List Turn
  pub performs : Performs line text turns (stand r y p) (stand r y q)
  pub kept : Still turns → Unmoved r y p.panel q.panel
  pub brief : length text ≤ 1023

-- and of a line with its printed answer: left is out with the text and its newline at the front. Whatever lawful history
-- of the panel led here goes on with the line's turns; so does every dialogue, and from a vacant start it obeys the law of routes
pub record Answered {R Y : Type 0} (r : Ghosts R RuleNumber) (y : Ghosts Y TrainTag) (p q : Console R Y) (line out left : List ℕ) (n : Result ℕ LineFault) : Type 0 where
  pub text : List ℕ
  pub acted : Acted r y p q line text
  pub length_is : n ≡ Ok (length (lined text))
  pub left_is : left ≡ fronted (lined text) out
  pub goes_on : GoesOn acted.turns (board r y p.panel) (board r y q.panel)
  pub dialogue : (start : Stand) (past : List Exchange) (ts : List Turn) → Dialogue start past ts (stand r y p)
      → Dialogue start (exchange line text ∷ past) (ts ++ acted.turns) (stand r y q)
  pub law : (start : Stand) (past : List Exchange) (ts : List Turn) → Vacant start → Dialogue start past ts (stand r y p)
      → RouteLaw start.board (ts ++ acted.turns) (board r y q.panel)

-- the two clauses of the call: a slice under 1,024 bytes is refused and nothing changes, no other is; and the line is answered
abbrev pub Tight : {R Y : Type 0} → Console R Y → Console R Y → List ℕ → List ℕ → Result ℕ LineFault → Type 0
Tight p q out left n = (length out < 1024 → (n ≡ Err SmallOut) × (left ≡ out) × (q ≡ p)) × (1024 ≤ length out → is_ok n ≡ true)

abbrev pub Answers : {R Y : Type 0} → Ghosts R RuleNumber → Ghosts Y TrainTag → Console R Y → Console R Y → List ℕ → List ℕ → List ℕ → Result ℕ LineFault → Type 0
Answers r y p q line out left n = 1024 ≤ length out → Answered r y p q line out left n
