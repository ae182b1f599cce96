-- A command done: its call on the panel, and its answer as a text.
use Rattle.std.proofs.Common.{◌≡◌, ℕ, ◌≤◌, MatchResult, true, false, List, [], ◌∷◌, length, is_ok, Some, None, Ok, Err, Option, Result, sym, refl, ap, ◌∙◌, subst, inl, inr, arith}
use Rattle.std.specs.Result.{IsOkAnd}
use Rattle.order.specs.declared.keys.RuleNumber.{RuleNumber}
use Rattle.order.specs.declared.keys.TrainTag.{TrainTag}
use Rattle.order.specs.declared.set.OrderedSet.{Ghosts}
use Rattle.book.specs.declared.call.Answer as answers
use Rattle.book.specs.declared.call.Call.{Call}
use Rattle.book.specs.declared.call.Turn.{Turn}
use Rattle.book.specs.declared.fault.BookFault.{BookFault}
use Rattle.book.specs.declared.fault.BookFault.TheVariants.{BadRule}
use Rattle.book.specs.Books.{Kept, Lists, pages}
use Rattle.book.specs.Calls.{Carries, placed, sent, still, turn}
use Rattle.book.specs.Yards.{Unmoved, board}
use Rattle.book.specs.declared.panel.Panel.{Panel}
use Rattle.std.proofs.lemmas.Bool.{true≢false}
use Rattle.line.specs.Answers.{list_text, printed}
use Rattle.line.specs.Consoles.{Brief, Done, Still, climbing}
use Rattle.line.specs.Grammar.{Asked, listing}
use Rattle.line.specs.Replies.{Calls, Shows, Unfit, drawing}
use Rattle.line.specs.declared.answer.Answer.{Answer}
use Rattle.line.specs.declared.answer.Answer.TheVariants.{Placed, Sent}
use Rattle.line.specs.declared.console.Console.{Console}
use Rattle.line.specs.declared.fault.LineFault.TheVariants.{Book}
use Rattle.line.proofs.Brief.{listed_brief, refused_brief}

-- a call that answers a place keeps all only where it is turned down
stays_placed : (a : Result answers.Answer BookFault) (r : Result ℕ BookFault) → a ≡ placed r → still a ≡ true → is_ok r ≡ false
stays_placed a (Ok p) e stays = absurd (true≢false (sym (ap still (sym e) ∙ stays)))
stays_placed a (Err f) e stays = refl

-- a result of the panel, as one of a line
abbrev pub made : {T : Type 0} → (T → Answer) → Result T BookFault → Result Answer BookFault
made f (Ok x) = Ok (f x)
made f (Err e) = Err e

-- as map makes it
abbrev pub Mapped : {T : Type 0} → (T → Answer) → Result T BookFault → Result Answer BookFault → Type 0
Mapped f res out = MatchResult res (λ x. IsOkAnd out (λ a. (a ≡ f x) × Brief (Ok a))) (λ e. out ≡ Err e)

mapped_as : {T : Type 0} (f : T → Answer) (res : Result T BookFault) (out : Result Answer BookFault) → Mapped f res out
    → (out ≡ made f res) × Brief (climbing out)
mapped_as f (Ok x) (Ok a) h = (ap (λ (b : Answer). Ok b) h.0, h.1)
mapped_as f (Ok x) (Err e) h = absurd h
mapped_as f (Err e) out h = (h, subst (λ (o : Result Answer BookFault). Brief (climbing o)) (sym h) (refused_brief (Book e)))

shows_placed : (res : Result ℕ BookFault) → Shows (placed res) (printed (climbing (made Placed res)))
shows_placed (Ok p) = refl
shows_placed (Err f) = refl

shows_sent : (res : Result (Option (TrainTag × ℕ × ℕ)) BookFault) → Shows (sent res) (printed (climbing (made Sent res)))
shows_sent (Ok (Some d)) = refl
shows_sent (Ok None) = refl
shows_sent (Err f) = refl

-- of one turn
still_one : (t : Turn) → Still (t ∷ []) → still t.answer ≡ true
still_one t none = none 0 t (omega arith, refl)

module _ {R Y : Type 0} (r : Ghosts R RuleNumber) (y : Ghosts Y TrainTag) where
  pub unmoved : (p q : Panel R Y) → q ≡ p → Unmoved r y p q
  unmoved p q same =
      ((ap (λ (s : Panel R Y). r.body s.book.set) same, ap (λ (s : Panel R Y). s.book.rules) same), ap (λ (s : Panel R Y). y.body s.yard) same)

  module _ (p q : Console R Y) (a : Asked) (drawn : q.draws.state ≡ drawing a p.draws.state) where
    -- a call was made
    done_call : (call : Call) (answer : Result answers.Answer BookFault) (text : List ℕ) → Calls a q.draws.state call → Shows answer text
        → Carries call answer (board r y p.panel) (board r y q.panel)
        → (still answer ≡ true → Unmoved r y p.panel q.panel)
        → length text ≤ 1023
        → Done r y p q a text
    done_call call answer text calls shows carries kept brief = record {
      draws = drawn;
      turns = turn call answer ∷ [];
      replies = inl (record { call = call; answer = answer; calls = calls; carries = carries; shows = shows; turns = refl });
      kept = λ none. kept (still_one (turn call answer) none);
      brief = brief;
    }

    pub done_placed : (call : Call) (res : Result ℕ BookFault) (out : Result Answer BookFault) → Mapped Placed res out → Calls a q.draws.state call
        → Carries call (placed res) (board r y p.panel) (board r y q.panel)
        → (is_ok res ≡ false → Unmoved r y p.panel q.panel)
        → Done r y p q a (printed (climbing out))
    done_placed call res out mapped calls carries kept =
        let (is, brief) = mapped_as Placed res out mapped in
        done_call call (placed res) _ calls (subst (λ (o : Result Answer BookFault). Shows (placed res) (printed (climbing o))) (sym is) (shows_placed res)) carries
        (λ no. kept (stays_placed (placed res) res refl no)) brief

    pub done_sent : (call : Call) (res : Result (Option (TrainTag × ℕ × ℕ)) BookFault) (out : Result Answer BookFault) → Mapped Sent res out → Calls a q.draws.state call
        → Carries call (sent res) (board r y p.panel) (board r y q.panel)
        → (still (sent res) ≡ true → Unmoved r y p.panel q.panel)
        → Done r y p q a (printed (climbing out))
    done_sent call res out mapped calls carries kept =
        let (is, brief) = mapped_as Sent res out mapped in
        done_call call (sent res) _ calls (subst (λ (o : Result Answer BookFault). Shows (sent res) (printed (climbing o))) (sym is) (shows_sent res)) carries kept brief

    -- the rule was not lawful
    pub done_unfit : (out : Result Answer BookFault) → out ≡ Err BadRule → Unfit a → q.panel ≡ p.panel → Done r y p q a (printed (climbing out))
    done_unfit out is unfit same =
        subst (λ (o : Result Answer BookFault). Done r y p q a (printed (climbing o))) (sym is) (record {
          draws = drawn;
          turns = [];
          replies = inr (inl (unfit, refl, refl, ap (board r y) same));
          kept = λ _. unmoved p.panel q.panel same;
          brief = refused_brief (Book BadRule);
        })

    -- the numbers that have a rule were listed
    pub done_listed : a ≡ listing → (ns : List ℕ) → Lists ns (pages r p.panel.book) (pages r q.panel.book)
        → Kept r p.panel.book q.panel.book → q.panel.yard ≡ p.panel.yard → Done r y p q a (list_text ns)
    done_listed is ns lists kept yard = record {
      draws = drawn;
      turns = [];
      replies = inr (inr (is, ap list_text lists.lists, refl, λ i. record { book = lists.same i; yard = y.meaning (yard i) }));
      kept = λ _. (kept, ap y.body yard);
      brief = listed_brief p.panel.book.rules p.panel.book.whole (r.meaning p.panel.book.set).order ns lists.lists lists.most;
    }
