-- One call on a panel with its answer: a turn.
--     Obeys v call a      on a panel that means v the call's answer is the defined one, a refusal exactly under its condition
--     Carries call a v w  and the panel that it leaves means w
--     Faulted call f v    the condition of the refusal f of the call holds of v
use Rattle.std.specs.Prelude.{◌≡◌, ℕ, Bool, true, false, Some, None, Ok, Err, Option, Result}
use Rattle.order.specs.declared.keys.TrainTag.{TrainTag}
use Rattle.book.specs.declared.call.Answer.{Answer}
use Rattle.book.specs.declared.call.Answer.TheVariants.{Placed, Decided, Sent}
use Rattle.book.specs.declared.call.Call.{Call}
use Rattle.book.specs.declared.call.Call.TheVariants.{Add, Drop, Move, Join, Send, Decide}
use Rattle.book.specs.declared.call.Turn.{Turn}
use Rattle.book.specs.declared.fault.BookFault.{BookFault}
use Rattle.book.specs.Pages.{approach}
use Rattle.book.specs.Books.{Adds, AddAnswer, AddFault, Answers, DecideAnswer, DecideFault, Drops, DropAnswer, DropFault, Moves, MoveAnswer, MoveFault}
use Rattle.book.specs.Yards.{Board, Joins, JoinAnswer, JoinFault, Sends, SendAnswer, SendFault}

abbrev pub turn : Call → Result Answer BookFault → Turn
turn call answer = record { call = call; answer = answer }

abbrev pub called : Turn → Call
called t = t.call

abbrev pub accepted : Result Answer BookFault → Bool
accepted (Ok a) = true
accepted (Err f) = false

-- a refusal, a decision, and a send that lets no train go: what a panel holds stays
abbrev pub still : Result Answer BookFault → Bool
still (Ok (Placed p)) = false
still (Ok (Decided d)) = true
still (Ok (Sent (Some d))) = false
still (Ok (Sent None)) = true
still (Err f) = true

-- the results of the calls, as answers
abbrev pub placed : Result ℕ BookFault → Result Answer BookFault
placed (Ok p) = Ok (Placed p)
placed (Err f) = Err f

abbrev pub decided : Result (Option (ℕ × ℕ)) BookFault → Result Answer BookFault
decided (Ok d) = Ok (Decided d)
decided (Err f) = Err f

abbrev pub sent : Result (Option (TrainTag × ℕ × ℕ)) BookFault → Result Answer BookFault
sent (Ok d) = Ok (Sent d)
sent (Err f) = Err f

abbrev pub Obeys : Board → Call → Result Answer BookFault → Type 0
Obeys v (Add n rule place draw) a = (r : Result ℕ BookFault) × (a ≡ placed r) × AddAnswer n place r v.book
Obeys v (Drop n) a = (r : Result ℕ BookFault) × (a ≡ placed r) × DropAnswer n r v.book
Obeys v (Move n place draw) a = (r : Result ℕ BookFault) × (a ≡ placed r) × MoveAnswer n place r v.book
Obeys v (Join tag draw) a = (r : Result ℕ BookFault) × (a ≡ placed r) × JoinAnswer tag r v.yard
Obeys v (Send turnout) a = (r : Result (Option (TrainTag × ℕ × ℕ)) BookFault) × (a ≡ sent r) × SendAnswer turnout r v
Obeys v (Decide turnout class) a = (r : Result (Option (ℕ × ℕ)) BookFault) × (a ≡ decided r) × DecideAnswer (approach turnout class) r v.book

unfoldable pub Carries : Call → Result Answer BookFault → Board → Board → Type 0
Carries (Add n rule place draw) a v w =
    (r : Result ℕ BookFault) × (a ≡ placed r) × Adds n rule place r v.book w.book × (w.yard ≡ v.yard)
Carries (Drop n) a v w = (r : Result ℕ BookFault) × (a ≡ placed r) × Drops n r v.book w.book × (w.yard ≡ v.yard)
Carries (Move n place draw) a v w = (r : Result ℕ BookFault) × (a ≡ placed r) × Moves n place r v.book w.book × (w.yard ≡ v.yard)
Carries (Join tag draw) a v w = (r : Result ℕ BookFault) × (a ≡ placed r) × Joins tag r v.yard w.yard × (w.book ≡ v.book)
Carries (Send turnout) a v w = (r : Result (Option (TrainTag × ℕ × ℕ)) BookFault) × (a ≡ sent r) × Sends turnout r v w
Carries (Decide turnout class) a v w =
    (r : Result (Option (ℕ × ℕ)) BookFault) × (a ≡ decided r) × Answers (approach turnout class) r v.book w.book × (w.yard ≡ v.yard)

abbrev pub Faulted : Call → BookFault → Board → Type 0
Faulted (Add n rule place draw) f v = AddFault n place f v.book
Faulted (Drop n) f v = DropFault n f v.book
Faulted (Move n place draw) f v = MoveFault n place f v.book
Faulted (Join tag draw) f v = JoinFault tag f v.yard
Faulted (Send turnout) f v = SendFault turnout f v.yard
Faulted (Decide turnout class) f v = DecideFault (approach turnout class) f
