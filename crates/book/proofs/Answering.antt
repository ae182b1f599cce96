-- What an answer says of the call that got it, and that a refused call leads nowhere.
use Rattle.std.proofs.Common.{◌≡◌, ℕ, ◌+◌, List, [], ◌∷◌, ◌++◌, length, take, drop, Ok, Err, Option, Result, ap, ◌∙◌, subst, append-nil}
use Rattle.std.proofs.lemmas.List.{take_more}
use Rattle.std.proofs.lemmas.List.Sums.{fold_push}
use Rattle.order.specs.Order.{At, ordered}
use Rattle.order.specs.declared.keys.TrainTag.{TrainTag}
use Rattle.book.specs.declared.call.Answer.TheVariants.{Decided, Sent}
use Rattle.book.specs.declared.call.Call.{Call}
use Rattle.book.specs.declared.call.Call.TheVariants.{Add, Drop, Move, Join, Send, Decide}
use Rattle.book.specs.declared.call.Turn.{Turn}
use Rattle.book.specs.declared.fault.BookFault.{BookFault}
use Rattle.book.specs.Books.{AddAnswer, DecideAnswer, DropAnswer, MoveAnswer}
use Rattle.book.specs.Calls.{Faulted, Obeys, decided, placed, sent, turn}
use Rattle.book.specs.Law.{before}
use Rattle.book.specs.Pages.{Decides, Pages, approach}
use Rattle.book.specs.Runs.{after, built, joined, joining, leaving, left, reached}
use Rattle.book.specs.Yards.{Board, Departs, JoinAnswer, SendAnswer}
use Rattle.book.proofs.Following.{gathered_push, joins_refused}

pub decided_so : (v : Board) (turnout class : ℕ) (d : Option (ℕ × ℕ)) → Obeys v (Decide turnout class) (Ok (Decided d)) → Decides v.book (approach turnout class) d
decided_so v turnout class d (Ok d', e, answer) =
    let same : d' ≡ d = cc in subst (λ (x : Option (ℕ × ℕ)). Decides v.book (approach turnout class) x) same answer.2
decided_so v turnout class d (Err f, e, answer) = absurd cc

pub departs_so : (v : Board) (turnout : ℕ) (d : Option (TrainTag × ℕ × ℕ)) → Obeys v (Send turnout) (Ok (Sent d)) → Departs turnout d v
departs_so v turnout d (Ok d', e, answer) =
    let same : d' ≡ d = cc in subst (λ (x : Option (TrainTag × ℕ × ℕ)). Departs turnout x v) same answer.1
departs_so v turnout d (Err f, e, answer) = absurd cc

-- a result that is a refusal is that fault
placed_fault : (r : Result ℕ BookFault) (f : BookFault) → Err f ≡ placed r → r ≡ Err f
placed_fault (Ok p) f e = absurd cc
placed_fault (Err f') f e = cc

sent_fault : (r : Result (Option (TrainTag × ℕ × ℕ)) BookFault) (f : BookFault) → Err f ≡ sent r → r ≡ Err f
sent_fault (Ok d) f e = absurd cc
sent_fault (Err f') f e = cc

decided_fault : (r : Result (Option (ℕ × ℕ)) BookFault) (f : BookFault) → Err f ≡ decided r → r ≡ Err f
decided_fault (Ok d) f e = absurd cc
decided_fault (Err f') f e = cc

as_fault : (P : Result ℕ BookFault → Type 0) (r : Result ℕ BookFault) (f : BookFault) → Err f ≡ placed r → P r → P (Err f)
as_fault P r f e p = subst P (placed_fault r f e) p

pub faulted_so : (v : Board) (call : Call) (f : BookFault) → Obeys v call (Err f) → Faulted call f v
faulted_so v (Add n rule place draw) f (r, e, answer) = as_fault (λ (x : Result ℕ BookFault). AddAnswer n place x v.book) r f e answer
faulted_so v (Drop n) f (r, e, answer) = as_fault (λ (x : Result ℕ BookFault). DropAnswer n x v.book) r f e answer
faulted_so v (Move n place draw) f (r, e, answer) = as_fault (λ (x : Result ℕ BookFault). MoveAnswer n place x v.book) r f e answer
faulted_so v (Join tag draw) f (r, e, answer) = as_fault (λ (x : Result ℕ BookFault). JoinAnswer tag x v.yard) r f e answer
faulted_so v (Send turnout) f (r, e, answer) = subst (λ (x : Result (Option (TrainTag × ℕ × ℕ)) BookFault). SendAnswer turnout x v) (sent_fault r f e) answer
faulted_so v (Decide turnout class) f (r, e, answer) =
    subst (λ (x : Result (Option (ℕ × ℕ)) BookFault). DecideAnswer (approach turnout class) x v.book) (decided_fault r f e) answer

module _ (start : Board) (h : List Turn) (call : Call) (f : BookFault) where
  -- a refused call changes neither the book built, nor who joined, nor who left
  same_built : built start.book (h ++ turn call (Err f) ∷ []) ≡ built start.book h
  same_built = fold_push after start.book h (turn call (Err f))

  same_joined : joined (h ++ turn call (Err f) ∷ []) ≡ joined h
  same_joined = gathered_push joining h (turn call (Err f)) ∙ ap (λ (ts : List TrainTag). joined h ++ ts) (joins_refused call) ∙ append-nil (joined h)

  same_left : left (h ++ turn call (Err f) ∷ []) ≡ left h
  same_left = gathered_push leaving h (turn call (Err f)) ∙ append-nil (left h)

  refused_reached : reached start (h ++ turn call (Err f) ∷ []) ≡ reached start h
  refused_reached =
      ap {B = Board} (λ (p : Pages). record { book = p; yard = ordered start.yard (drop (length (left (h ++ turn call (Err f) ∷ []))) (joined (h ++ turn call (Err f) ∷ []))) }) same_built
      ∙ ap {B = Board} (λ (ts : List TrainTag). record { book = built start.book h; yard = ordered start.yard (drop (length ts) (joined (h ++ turn call (Err f) ∷ []))) }) same_left
      ∙ ap {B = Board} (λ (ts : List TrainTag). record { book = built start.book h; yard = ordered start.yard (drop (length (left h)) ts) }) same_joined

pub refused_leads : (start : Board) (h : List Turn) (i : ℕ) (call : Call) (f : BookFault) → At h i (turn call (Err f)) → before start h (i + 1) ≡ before start h i
refused_leads start h i call f (lt, is) =
    ap (reached start) (take_more h i (turn call (Err f)) lt ∙ ap (λ (x : Turn). take i h ++ x ∷ []) is) ∙ refused_reached start (take i h) call f
