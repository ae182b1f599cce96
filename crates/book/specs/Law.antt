-- The law of routes and departures, over a whole history of calls and answers from a start with two empty orders.
--     before start h i    what the turns before the i-th led to
--     SameFront h j i     the train in front before turn j is the train in front before turn i
--     FirstSend start h   a train leaves at the first send that finds it a rule
--     RouteLaw start h v  the law, and v is what the history leads to
--     Follows start h v   what each turn keeps up, so that the law holds of every history
--     GoesOn ts v w       whatever lawful history led to v, it goes on with the turns ts, and leads to w
use Rattle.std.specs.Prelude.{◌≡◌, ℕ, ◌+◌, ◌<◌, List, ◌++◌, length, take, Some, None, Ok, Err, Option, Result}
use Rattle.order.specs.Order.{At, Distinct, ordered}
use Rattle.order.specs.declared.keys.TrainTag.{TrainTag}
use Rattle.book.specs.declared.call.Answer.{Answer}
use Rattle.book.specs.declared.call.Answer.TheVariants.{Decided, Sent}
use Rattle.book.specs.declared.call.Call.{Call}
use Rattle.book.specs.declared.call.Call.TheVariants.{Send, Decide}
use Rattle.book.specs.declared.call.Turn.{Turn}
use Rattle.book.specs.declared.fault.BookFault.{BookFault}
use Rattle.book.specs.Pages.{Decides, approach}
use Rattle.book.specs.Rules.{Turnout}
use Rattle.book.specs.Yards.{Board, Departs}
use Rattle.book.specs.Calls.{Faulted, Obeys, turn}
use Rattle.book.specs.Runs.{built, joined, left, reached, waiting}

abbrev pub before : Board → List Turn → ℕ → Board
before start h i = reached start (take i h)

-- every turn has the answer that is defined on what the turns before it led to
abbrev pub Obeyed : Board → List Turn → Type 0
Obeyed start h = (i : ℕ) (t : Turn) → At h i t → Obeys (before start h i) t.call t.answer

-- some train waits before turn j, and none has left from then until turn i
abbrev pub SameFront : List Turn → ℕ → ℕ → Type 0
SameFront h j i = (length (left (take j h)) < length (joined (take j h))) × (length (left (take j h)) ≡ length (left (take i h)))

-- where a train left at turn i, each earlier send to a turnout, the train in front being the same, found it no rule
abbrev pub FirstSend : Board → List Turn → Type 0
FirstSend start h =
    (i j t u : ℕ) (d : TrainTag × ℕ × ℕ) (a : Result Answer BookFault)
    → At h i (turn (Send t) (Ok (Sent (Some d)))) → j < i → At h j (turn (Send u) a) → Turnout u → SameFront h j i
    → Decides (before start h j).book (approach u d.0.class) None

pub record RouteLaw (start : Board) (h : List Turn) (v : Board) : Type 0 where
  -- a turnout is decided by the first matching rule of the order that the calls before built, and by none exactly when none matches
  pub decided_first : (i turnout class : ℕ) (d : Option (ℕ × ℕ)) → At h i (turn (Decide turnout class) (Ok (Decided d)))
      → Decides (before start h i).book (approach turnout class) d
  -- so is the turnout of a send, for the train in front, which leaves with a rule and stays without
  pub sent_first : (i turnout : ℕ) (d : Option (TrainTag × ℕ × ℕ)) → At h i (turn (Send turnout) (Ok (Sent d))) → Departs turnout d (before start h i)
  -- a call is refused where its refusal's condition holds, and it changes nothing
  pub refused_so : (i : ℕ) (call : Call) (f : BookFault) → At h i (turn call (Err f)) → Faulted call f (before start h i)
  pub refused_same : (i : ℕ) (call : Call) (f : BookFault) → At h i (turn call (Err f)) → before start h (i + 1) ≡ before start h i
  -- every turn has its defined answer, a refusal exactly under its condition
  pub obeyed : Obeyed start h
  -- those that joined, in their order, are those that left and then those that wait
  pub in_turn : joined h ≡ left h ++ (waiting start.yard h).order
  -- each train left at the first send that found it a rule
  pub first_send : FirstSend start h
  -- the panel's orders and rules are those that the history built
  pub leads : v ≡ reached start h

pub record Follows (start : Board) (h : List Turn) (v : Board) : Type 0 where
  pub book_built : v.book ≡ built start.book h
  pub yard_waits : joined h ≡ left h ++ v.yard.order
  pub yard_else : v.yard ≡ ordered start.yard v.yard.order
  pub apart : Distinct v.book.numbers.order
  pub obeyed : Obeyed start h

abbrev pub GoesOn : List Turn → Board → Board → Type 0
GoesOn ts v w = (start : Board) (h : List Turn) → Follows start h v → Follows start (h ++ ts) w × RouteLaw start (h ++ ts) w
