-- A line done: what it says was done, or it says nothing and is refused.
use Rattle.std.proofs.Common.{◌≡◌, ℕ, MatchResult, List, [], Ok, Err, Result, sym, refl, ap, subst, inl, inr}
use Rattle.std.specs.Result.{IsErrAnd}
use Rattle.order.specs.declared.keys.RuleNumber.{RuleNumber}
use Rattle.order.specs.declared.keys.TrainTag.{TrainTag}
use Rattle.order.specs.declared.set.OrderedSet.{Ghosts}
use Rattle.book.specs.declared.fault.BookFault.{BookFault}
use Rattle.line.specs.Answers.{printed}
use Rattle.line.specs.Consoles.{Acted, Done, climbing, stand}
use Rattle.line.specs.Grammar.{Asked, Says}
use Rattle.line.specs.declared.answer.Answer.{Answer}
use Rattle.line.specs.declared.console.Console.{Console}
use Rattle.line.specs.declared.fault.LineFault.{LineFault}
use Rattle.line.specs.declared.fault.LineFault.TheVariants.{Book, BadLine}
use Rattle.line.proofs.Acting.{unmoved}
use Rattle.line.proofs.Brief.{refused_brief}

-- a refusal of the book climbs
pub climbed : (res : Result Answer BookFault) (out : Result Answer LineFault) → MatchResult res (λ a. out ≡ Ok a) (λ e. IsErrAnd out (λ f. f ≡ Book e)) → out ≡ climbing res
climbed (Ok a) out h = h
climbed (Err e) (Ok a) h = absurd h
climbed (Err e) (Err f) h = ap (λ (k : LineFault). Err k) h

module _ {R Y : Type 0} (r : Ghosts R RuleNumber) (y : Ghosts Y TrainTag) (p q : Console R Y) (line : List ℕ) where
  pub line_done : (a : Asked) (text now : List ℕ) → now ≡ text → Says line a → Done r y p q a text → Acted r y p q line now
  line_done a text now is says done =
      subst (Acted r y p q line) (sym is)
      (record { turns = done.turns; performs = inl (a, says, done.draws, done.replies); kept = done.kept; brief = done.brief })

  pub line_bad : (out : Result Answer LineFault) → out ≡ Err BadLine → ((a : Asked) → Says line a → ⊥) → q ≡ p → Acted r y p q line (printed out)
  line_bad out is nothing same =
      subst (λ (o : Result Answer LineFault). Acted r y p q line (printed o)) (sym is) (record {
        turns = [];
        performs = inr (nothing, refl, refl, ap (stand r y) same);
        kept = λ _. unmoved r y p.panel q.panel (ap (λ (s : Console R Y). s.panel) same);
        brief = refused_brief BadLine;
      })
