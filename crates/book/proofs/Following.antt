-- One more turn: the book built and the trains that wait follow, and the law goes on.
use Rattle.std.proofs.Common.{◌≡◌, ℕ, false, List, [], ◌∷◌, ◌++◌, length, take, drop, Some, None, Ok, Err, Option, Result, sym, refl, ap, ◌∙◌, subst, ⊎_elim, append_assoc, append-nil, arith}
use Rattle.std.specs.List.{insert}
use Rattle.std.proofs.lemmas.List.Edits.{length-remove}
use Rattle.std.proofs.lemmas.List.{drop_at, get_or_append_left, get_or_push, length_push, take-append-le, take_at}
use Rattle.std.proofs.lemmas.List.Sums.{fold_push}
use Rattle.order.proofs.Places.{apart_inserted, apart_removed}
use Rattle.order.specs.Order.{Distinct, Meaning, ordered}
use Rattle.book.specs.declared.rule.Rule.{Rule}
use Rattle.order.specs.declared.keys.RuleNumber.{RuleNumber}
use Rattle.order.specs.declared.keys.TrainTag.{TrainTag}
use Rattle.book.specs.declared.fault.BookFault.{BookFault}
use Rattle.book.specs.declared.call.Call.{Call}
use Rattle.book.specs.declared.call.Call.TheVariants.{Add, Drop, Move, Join, Send, Decide}
use Rattle.book.specs.declared.call.Answer.{Answer}
use Rattle.book.specs.declared.call.Answer.TheVariants.{Placed, Decided, Sent}
use Rattle.book.specs.declared.call.Turn.{Turn}
use Rattle.book.specs.Books.{Adds, Answers, Drops, Moves}
use Rattle.book.specs.Calls.{Carries, Obeys, decided, placed, sent, turn}
use Rattle.book.specs.Law.{Follows, Obeyed}
use Rattle.book.specs.Pages.{Pages, approach, key, reordered, rewritten}
use Rattle.book.specs.Runs.{after, built, gathered, joining, joins, leaving, left, reached, waiting}
use Rattle.book.specs.Yards.{Board, Joins, Sends}
use Rattle.book.proofs.Leaving.{leave_is}
use Rattle.book.proofs.Moving.{put_last, removed_absent}
use Rattle.book.proofs.Places.{at_front, below_or_past}

-- what two histories give, one after the other
pub gathered_append : (f : Turn → List TrainTag) (h k : List Turn) → gathered f (h ++ k) ≡ gathered f h ++ gathered f k
gathered_append f [] k = refl
gathered_append f (e ∷ h) k = ap (λ (ts : List TrainTag). f e ++ ts) (gathered_append f h k) ∙ sym (append_assoc (f e) (gathered f h) (gathered f k))

pub gathered_push : (f : Turn → List TrainTag) (h : List Turn) (e : Turn) → gathered f (h ++ e ∷ []) ≡ gathered f h ++ f e
gathered_push f h e = gathered_append f h (e ∷ []) ∙ ap (λ (ts : List TrainTag). gathered f h ++ ts) (append-nil (f e))

-- what is true of each turn after those before it stays so with one more turn
obeyed_more : (start : Board) (h : List Turn) (e : Turn) → Obeyed start h → Obeys (reached start h) e.call e.answer → Obeyed start (h ++ e ∷ [])
obeyed_more start h e obeyed obeys i e' (lt, is) =
    let len = length_push h e in
    ⊎_elim
    (λ below.
    subst (λ (past : List Turn). Obeys (reached start past) e'.call e'.answer) (sym (take-append-le i h (e ∷ []) (omega arith)))
    (obeyed i e' (below, sym (get_or_append_left h (e ∷ []) e' i below) ∙ is)))
    (λ past.
    let at : length h ≡ i = omega arith in
    let same : e ≡ e' = sym (get_or_push h e e' i at) ∙ is in
    subst (λ (now : Turn). Obeys (reached start (take i (h ++ e ∷ []))) now.call now.answer) same
    (subst (λ (past : List Turn). Obeys (reached start past) e.call e.answer) (sym (take_at h (e ∷ []) i at)) obeys))
    (below_or_past i (length h))

pub as_history : (start : Board) (h k : List Turn) (v : Board) → h ≡ k → Follows start h v → Follows start k v
as_history start h k v e follows = subst (λ (past : List Turn). Follows start past v) e follows

-- the empty history leads from two empty orders to themselves
starts : (start : Board) → start.book.numbers.order ≡ [] → start.yard.order ≡ [] → Follows start [] start
starts start none empty = record {
  book_built = refl;
  yard_waits = sym empty;
  yard_else = refl;
  apart = subst Distinct (sym none) (λ i j x a b. absurd (omega (arith, a.0)));
  obeyed = λ i t at. absurd (omega (arith, at.0));
}

pub begins_at : (start v : Board) → v ≡ start → start.book.numbers.order ≡ [] → start.yard.order ≡ [] → Follows start [] v
begins_at start v e none empty = subst (λ (u : Board). Follows start [] u) (sym e) (starts start none empty)

-- a refused call gives no train
pub joins_refused : (call : Call) → joins call false ≡ []
joins_refused (Add n rule place draw) = refl
joins_refused (Drop n) = refl
joins_refused (Move n place draw) = refl
joins_refused (Join tag draw) = refl
joins_refused (Send turnout) = refl
joins_refused (Decide turnout class) = refl

module _ (start : Board) (h : List Turn) (v : Board) (follows : Follows start h v) where
  -- the panel is what the history reached
  pub waits_rest : v.yard.order ≡ (waiting start.yard h).order
  waits_rest = sym (ap (drop (length (left h))) follows.yard_waits ∙ drop_at (left h) v.yard.order (length (left h)) refl)

  pub is_reached : v ≡ reached start h
  is_reached =
      ap {B = Board} (λ (p : Pages). record { book = p; yard = v.yard }) follows.book_built
      ∙ ap {B = Board} (λ (m : Meaning TrainTag). record { book = built start.book h; yard = m }) (follows.yard_else ∙ ap (ordered start.yard) waits_rest)

  module _ (w : Board) where
    -- those that waited and joined are those that leave and wait
    follow : (e : Turn) → Obeys v e.call e.answer → w.book ≡ after v.book e → w.yard ≡ ordered v.yard w.yard.order
        → v.yard.order ++ joining e ≡ leaving e ++ w.yard.order → Distinct w.book.numbers.order → Follows start (h ++ e ∷ []) w
    follow e obeys book rest waits apart = record {
      book_built = book ∙ ap (λ (p : Pages). after p e) follows.book_built ∙ sym (fold_push after start.book h e);
      yard_waits = gathered_push joining h e ∙ ap (λ (ts : List TrainTag). ts ++ joining e) follows.yard_waits
          ∙ append_assoc (left h) v.yard.order (joining e) ∙ ap (λ (ts : List TrainTag). left h ++ ts) waits
          ∙ sym (append_assoc (left h) (leaving e) w.yard.order) ∙ ap (λ (ts : List TrainTag). ts ++ w.yard.order) (sym (gathered_push leaving h e));
      yard_else = rest ∙ ap (λ (m : Meaning TrainTag). ordered m w.yard.order) follows.yard_else;
      apart = apart;
      obeyed = obeyed_more start h e follows.obeyed (subst (λ (u : Board). Obeys u e.call e.answer) is_reached obeys);
    }

    stays : w.yard ≡ v.yard → v.yard.order ++ [] ≡ w.yard.order
    stays e = append-nil v.yard.order ∙ ap (λ (m : Meaning TrainTag). m.order) (sym e)

    -- all but the order of the yard stays
    rest_stays : (ts : List TrainTag) → w.yard ≡ ordered v.yard ts → w.yard ≡ ordered v.yard w.yard.order
    rest_stays ts e = e ∙ ap (ordered v.yard) (sym (ap (λ (m : Meaning TrainTag). m.order) e))

    still_apart : w.book ≡ v.book → Distinct w.book.numbers.order
    still_apart e = subst (λ (p : Pages). Distinct p.numbers.order) (sym e) follows.apart

    refused : (call : Call) (f : BookFault) → Obeys v call (Err f) → w.book ≡ v.book → w.yard ≡ v.yard → Follows start (h ++ turn call (Err f) ∷ []) w
    refused call f obeys book yard =
        follow (turn call (Err f)) obeys book (rest_stays _ yard) (ap (λ (ts : List TrainTag). v.yard.order ++ ts) (joins_refused call) ∙ stays yard) (still_apart book)

    follow_add : (n : ℕ) (rule : Rule) (place draw : ℕ) (r : Result ℕ BookFault) → Adds n rule place r v.book w.book → w.yard ≡ v.yard
        → Follows start (h ++ turn (Add n rule place draw) (placed r) ∷ []) w
    follow_add n rule place draw (Ok p) (answer, book) yard =
        follow (turn (Add n rule place draw) (Ok (Placed p))) (Ok p, refl, answer) book (rest_stays _ yard) (stays yard)
        (subst (λ (p : Pages). Distinct p.numbers.order) (sym book) (apart_inserted _ place (key n) answer.1.1 answer.1.0 follows.apart))
    follow_add n rule place draw (Err f) (answer, book) yard = refused (Add n rule place draw) f (Err f, refl, answer) book yard

    follow_drop : (n : ℕ) (r : Result ℕ BookFault) → Drops n r v.book w.book → w.yard ≡ v.yard → Follows start (h ++ turn (Drop n) (placed r) ∷ []) w
    follow_drop n (Ok p) (answer, book) yard =
        follow (turn (Drop n) (Ok (Placed p))) (Ok p, refl, answer)
        (book ∙ ap (λ (xs : List RuleNumber). rewritten (reordered v.book xs) n None) (sym (leave_is _ p n follows.apart answer.1))) (rest_stays _ yard) (stays yard)
        (subst (λ (p : Pages). Distinct p.numbers.order) (sym book) (apart_removed _ p answer.1.0 follows.apart))
    follow_drop n (Err f) (answer, book) yard = refused (Drop n) f (Err f, refl, answer) book yard

    follow_move : (n place draw : ℕ) (r : Result ℕ BookFault) → Moves n place r v.book w.book → w.yard ≡ v.yard
        → Follows start (h ++ turn (Move n place draw) (placed r) ∷ []) w
    follow_move n place draw (Ok p) (answer, (i, at, book)) yard =
        let len = length-remove v.book.numbers.order i at.0 in
        follow (turn (Move n place draw) (Ok (Placed p))) (Ok p, refl, answer)
        (book ∙ ap (λ (xs : List RuleNumber). reordered v.book (insert xs place (key n))) (sym (leave_is _ i n follows.apart at))) (rest_stays _ yard) (stays yard)
        (subst (λ (p : Pages). Distinct p.numbers.order) (sym book)
        (apart_inserted _ place (key n) (omega (arith, answer.2)) (removed_absent _ i (key n) follows.apart at) (apart_removed _ i at.0 follows.apart)))
    follow_move n place draw (Err f) (answer, book) yard = refused (Move n place draw) f (Err f, refl, answer) book yard

    follow_join : (tag : TrainTag) (draw : ℕ) (r : Result ℕ BookFault) → Joins tag r v.yard w.yard → w.book ≡ v.book
        → Follows start (h ++ turn (Join tag draw) (placed r) ∷ []) w
    follow_join tag draw (Ok p) (answer, yard) book =
        follow (turn (Join tag draw) (Ok (Placed p))) (Ok p, refl, answer) book (rest_stays _ yard)
        (sym (ap (λ (m : Meaning TrainTag). m.order) yard ∙ put_last v.yard.order tag)) (still_apart book)
    follow_join tag draw (Err f) (answer, yard) book = refused (Join tag draw) f (Err f, refl, answer) book yard

    follow_send : (turnout : ℕ) (r : Result (Option (TrainTag × ℕ × ℕ)) BookFault) → Sends turnout r v w → Follows start (h ++ turn (Send turnout) (sent r) ∷ []) w
    follow_send turnout (Ok (Some d)) (answer, book, yard) =
        follow (turn (Send turnout) (Ok (Sent (Some d)))) (Ok (Some d), refl, answer) book (rest_stays _ yard)
        (append-nil v.yard.order ∙ at_front v.yard.order d.0 answer.1.0 ∙ ap (λ (m : Meaning TrainTag). d.0 ∷ m.order) (sym yard)) (still_apart book)
    follow_send turnout (Ok None) (answer, book, yard) =
        follow (turn (Send turnout) (Ok (Sent None))) (Ok None, refl, answer) book (rest_stays _ yard) (stays yard) (still_apart book)
    follow_send turnout (Err f) (answer, book, yard) = refused (Send turnout) f (Err f, refl, answer) book yard

    follow_decide : (turnout class : ℕ) (r : Result (Option (ℕ × ℕ)) BookFault) → Answers (approach turnout class) r v.book w.book → w.yard ≡ v.yard
        → Follows start (h ++ turn (Decide turnout class) (decided r) ∷ []) w
    follow_decide turnout class (Ok d) (answer, book) yard =
        follow (turn (Decide turnout class) (Ok (Decided d))) (Ok d, refl, answer) book (rest_stays _ yard) (stays yard) (still_apart book)
    follow_decide turnout class (Err f) (answer, book) yard = refused (Decide turnout class) f (Err f, refl, answer) book yard

    named : (call : Call) (a b : Result Answer BookFault) → a ≡ b → Follows start (h ++ turn call b ∷ []) w → Follows start (h ++ turn call a ∷ []) w
    named call a b e f = subst (λ (x : Result Answer BookFault). Follows start (h ++ turn call x ∷ []) w) (sym e) f

    -- whatever the history that led here, it goes on lawfully
    pub follow_turn : (call : Call) (a : Result Answer BookFault) → Carries call a v w → Follows start (h ++ turn call a ∷ []) w
    unfolding Carries
    follow_turn (Add n rule place draw) a (r, e, adds, yard) = named (Add n rule place draw) a (placed r) e (follow_add n rule place draw r adds yard)
    follow_turn (Drop n) a (r, e, drops, yard) = named (Drop n) a (placed r) e (follow_drop n r drops yard)
    follow_turn (Move n place draw) a (r, e, moves, yard) = named (Move n place draw) a (placed r) e (follow_move n place draw r moves yard)
    follow_turn (Join tag draw) a (r, e, joins, book) = named (Join tag draw) a (placed r) e (follow_join tag draw r joins book)
    follow_turn (Send turnout) a (r, e, sends) = named (Send turnout) a (sent r) e (follow_send turnout r sends)
    follow_turn (Decide turnout class) a (r, e, answers, yard) = named (Decide turnout class) a (decided r) e (follow_decide turnout class r answers yard)
