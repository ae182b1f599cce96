-- What a history of turns, the oldest first, says of itself: the book built by its accepted adds, drops and moves alone,
-- the trains that joined, those that left, and those that wait.
--     built start h       the book built from the start's
--     joined h, left h    the trains in the order in which they joined, and in the order in which they left
--     waiting start h     of those that joined, all but as many of the first as have left
--     reached start h     what the history leads to, from a start with two empty orders
use Rattle.std.specs.Prelude.{ℕ, Bool, cond, List, [], ◌∷◌, ◌++◌, length, drop, Some, None, Ok, Err, Result, fold, ◌==◌}
use Rattle.std.specs.List.{insert}
use Rattle.order.specs.Order.{Meaning, ordered}
use Rattle.order.specs.declared.keys.RuleNumber.{RuleNumber}
use Rattle.order.specs.declared.keys.TrainTag.{TrainTag}
use Rattle.book.specs.declared.call.Answer.{Answer}
use Rattle.book.specs.declared.call.Answer.TheVariants.{Placed, Decided, Sent}
use Rattle.book.specs.declared.call.Call.{Call}
use Rattle.book.specs.declared.call.Call.TheVariants.{Add, Drop, Move, Join, Send, Decide}
use Rattle.book.specs.declared.call.Turn.{Turn}
use Rattle.book.specs.declared.fault.BookFault.{BookFault}
use Rattle.book.specs.Pages.{Pages, key, reordered, rewritten}
use Rattle.book.specs.Books.{added}
use Rattle.book.specs.Yards.{Board}
use Rattle.book.specs.Calls.{accepted}

-- an order without a number
abbrev pub leave : ℕ → List RuleNumber → List RuleNumber
leave n [] = []
leave n (k ∷ ks) = cond (k.value == n) (leave n ks) (k ∷ leave n ks)

-- what an accepted call makes of a book
abbrev pub changed : Call → Pages → Pages
changed (Add n rule place draw) v = added n rule place v
changed (Drop n) v = rewritten (reordered v (leave n v.numbers.order)) n None
changed (Move n place draw) v = reordered v (insert (leave n v.numbers.order) place (key n))
changed (Join tag draw) v = v
changed (Send turnout) v = v
changed (Decide turnout class) v = v

abbrev pub after : Pages → Turn → Pages
after v t = cond (accepted t.answer) (changed t.call v) v

abbrev pub built : Pages → List Turn → Pages
built start h = fold after start h

-- what each turn of a history gives, one after the other
abbrev pub gathered : (Turn → List TrainTag) → List Turn → List TrainTag
gathered f [] = []
gathered f (t ∷ h) = f t ++ gathered f h

-- an accepted join gives its train
abbrev pub joins : Call → Bool → List TrainTag
joins (Add n rule place draw) b = []
joins (Drop n) b = []
joins (Move n place draw) b = []
joins (Join tag draw) b = cond b (tag ∷ []) []
joins (Send turnout) b = []
joins (Decide turnout class) b = []

abbrev pub joining : Turn → List TrainTag
joining t = joins t.call (accepted t.answer)

abbrev pub joined : List Turn → List TrainTag
joined h = gathered joining h

-- a send that found a rule gives its train
abbrev pub leaves : Result Answer BookFault → List TrainTag
leaves (Ok (Placed p)) = []
leaves (Ok (Decided d)) = []
leaves (Ok (Sent (Some d))) = d.0 ∷ []
leaves (Ok (Sent None)) = []
leaves (Err f) = []

abbrev pub leaving : Turn → List TrainTag
leaving t = leaves t.answer

abbrev pub left : List Turn → List TrainTag
left h = gathered leaving h

abbrev pub waiting : Meaning TrainTag → List Turn → Meaning TrainTag
waiting start h = ordered start (drop (length (left h)) (joined h))

abbrev pub reached : Board → List Turn → Board
reached start h = record { book = built start.book h; yard = waiting start.yard h }
