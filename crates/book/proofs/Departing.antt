-- From the law of each turn: a train leaves at the first send that finds it a rule.
use Rattle.std.proofs.Common.{◌≡◌, ℕ, ◌+◌, ◌<◌, ◌≤◌, List, [], ◌∷◌, ◌++◌, length, get_or, take, drop, Some, None, Ok, Err, Option, Result, sym, ap, ◌∙◌, subst, ⊎_elim, arith}
use Rattle.std.proofs.lemmas.List.{take-append-drop, take-take, take_more, get_or_append_left, get_or-drop, length-append, length-drop}
use Rattle.order.specs.Order.{At}
use Rattle.book.specs.declared.fault.BookFault.{BookFault}
use Rattle.order.specs.declared.keys.TrainTag.{TrainTag}
use Rattle.book.specs.declared.call.Call.TheVariants.{Send}
use Rattle.book.specs.declared.call.Answer.{Answer}
use Rattle.book.specs.declared.call.Answer.TheVariants.{Sent}
use Rattle.book.specs.declared.call.Turn.{Turn}
use Rattle.book.specs.declared.call.Call.{Call}
use Rattle.book.specs.Rules.{Turnout}
use Rattle.book.specs.Calls.{Carries, sent, turn}
use Rattle.book.specs.Law.{Follows, RouteLaw, SameFront, before}
use Rattle.book.specs.Pages.{Decides, approach}
use Rattle.book.specs.Runs.{gathered, joined, joining, leaving, left, reached, waiting}
use Rattle.book.specs.Yards.{Board, SendFault, SendAnswer}
use Rattle.book.proofs.Places.{at_same}
use Rattle.book.proofs.Following.{follow_turn, gathered_append, gathered_push, is_reached, waits_rest}
use Rattle.book.proofs.Answering.{decided_so, departs_so, faulted_so, refused_leads}

-- what an earlier part of a history gives stands at the front of what a later one gives
gathered_front : (f : Turn → List TrainTag) (h : List Turn) (j i : ℕ) → j ≤ i
    → gathered f (take i h) ≡ gathered f (take j h) ++ gathered f (drop j (take i h))
gathered_front f h j i le =
    ap (gathered f) (sym (take-append-drop j (take i h)) ∙ ap (λ (a : List Turn). a ++ drop j (take i h)) (take-take j i h le))
    ∙ gathered_append f (take j h) (drop j (take i h))

-- one that joined keeps its place in the sequence of joining
joined_stays : (h : List Turn) (j i k : ℕ) (tag : TrainTag) → j ≤ i → k < length (joined (take j h))
    → At (joined (take i h)) k tag → At (joined (take j h)) k tag
joined_stays h j i k tag le lt at = (
  lt,
  sym (get_or_append_left (joined (take j h)) (joined (drop j (take i h))) tag k lt)
      ∙ ap (λ (ts : List TrainTag). get_or ts k tag) (sym (gathered_front joining h j i le)) ∙ at.1,
)

-- a departure at j counts from then on
left_more : (h : List Turn) (j i : ℕ) (e : Turn) → j < i → At h j e → length (left (take j h)) + length (leaving e) ≤ length (left (take i h))
left_more h j i e lt at =
    let one = ap (λ (p : List Turn). length (left p)) (take_more h j e at.0 ∙ ap (λ (x : Turn). take j h ++ x ∷ []) at.1) in
    let two = ap length (gathered_push leaving (take j h) e) ∙ length-append (left (take j h)) (leaving e) in
    let three = ap length (gathered_front leaving h (j + 1) i (omega arith)) ∙ length-append (left (take (j + 1) h)) (left (drop (j + 1) (take i h))) in
    omega arith

-- the front of those that wait is the next of those that joined
next_joined : {A : Type 0} (n : ℕ) (xs : List A) (x : A) → At (drop n xs) 0 x → At xs n x
next_joined n xs x at =
    let len = length-drop n xs in
    let here : n + 0 ≡ n = omega arith in
    (omega (arith, at.0), ap (λ (k : ℕ). get_or xs k x) (sym here) ∙ sym (get_or-drop n xs 0 x) ∙ at.1)

refused_wrongly : (start : Board) (h : List Turn) (u : ℕ) (f : BookFault) → Turnout u → length (left h) < length (joined h) → SendFault u f (waiting start.yard h) → ⊥
refused_wrongly start h u f on lt reasons =
    ⊎_elim (λ off. off.1 on)
    (λ none. let e = ap length none.2 in let d = length-drop (length (left h)) (joined h) in omega arith) reasons

found_none : (start : Board) (h : List Turn) (j i u : ℕ) (tag : TrainTag) (a : Result Answer BookFault) (r : Result (Option (TrainTag × ℕ × ℕ)) BookFault)
    → j < i → At h j (turn (Send u) a) → Turnout u → SameFront h j i
    → At (joined (take i h)) (length (left (take i h))) tag → a ≡ sent r → SendAnswer u r (before start h j)
    → Decides (before start h j).book (approach u tag.class) None
found_none start h j i u tag a (Ok (Some d)) lt at on (in-yard, still) next e b =
    let more = left_more h j i (turn (Send u) (Ok (Sent (Some d)))) lt (subst (λ (x : Result Answer BookFault). At h j (turn (Send u) x)) e at) in absurd (omega arith)
found_none start h j i u tag a (Ok None) lt at on (in-yard, still) next e (_, (front, here, none)) =
    let next' = subst (λ (k : ℕ). At (joined (take i h)) k tag) (sym still) next in
    let same = at_same (joined (take j h)) (length (left (take j h))) front tag (next_joined _ _ front here) (joined_stays h j i _ tag (omega arith) in-yard next') in
    subst (λ (x : TrainTag). Decides (before start h j).book (approach u x.class) None) same none
found_none start h j i u tag a (Err f) lt at on (in-yard, still) next e b =
    absurd (refused_wrongly start (take j h) u f on in-yard b)

-- the train that a send let go was the next of those that joined
was_next : (start : Board) (h : List Turn) (t : ℕ) (d : TrainTag × ℕ × ℕ) (r : Result (Option (TrainTag × ℕ × ℕ)) BookFault)
    → Ok (Sent (Some d)) ≡ sent r → SendAnswer t r (reached start h) → At (joined h) (length (left h)) d.0
was_next start h t d (Ok (Some d')) e b =
    let same : d' ≡ d = cc in
    subst (λ (x : TrainTag × ℕ × ℕ). At (joined h) (length (left h)) x.0) same (next_joined _ _ d'.0 b.1.0)
was_next start h t d (Ok None) e b = absurd cc
was_next start h t d (Err f) e b = absurd cc

pub route_law : (start : Board) (h : List Turn) (v : Board) → Follows start h v → RouteLaw start h v
route_law start h v follows = record {
  decided_first = λ i turnout class d at. decided_so (before start h i) turnout class d (follows.obeyed i _ at);
  sent_first = λ i turnout d at. departs_so (before start h i) turnout d (follows.obeyed i _ at);
  refused_so = λ i call f at. faulted_so (before start h i) call f (follows.obeyed i _ at);
  refused_same = λ i call f at. refused_leads start h i call f at;
  obeyed = follows.obeyed;
  in_turn = follows.yard_waits ∙ ap (λ (ts : List TrainTag). left h ++ ts) (waits_rest start h v follows);
  first_send = λ i j t u d a at lt at' on same.
      let then' = follows.obeyed i (turn (Send t) (Ok (Sent (Some d)))) at in
      let now' = follows.obeyed j (turn (Send u) a) at' in
      found_none start h j i u d.0 a now'.0 lt at' on same (was_next start (take i h) t d then'.0 then'.1 then'.2) now'.1 now'.2;
  leads = is_reached start h v follows;
}

-- a history goes on with one more turn, lawfully
pub go_on : (start : Board) (h : List Turn) (v : Board) → Follows start h v → (w : Board) (call : Call) (a : Result Answer BookFault)
    → Carries call a v w → Follows start (h ++ turn call a ∷ []) w × RouteLaw start (h ++ turn call a ∷ []) w
go_on start h v follows w call a carried =
    let on = follow_turn start h v follows w call a carried in (on, route_law start (h ++ turn call a ∷ []) w on)
