-- How long a printed answer is: never more than 1,024 bytes, its newline counted.
use Rattle.std.proofs.Common.{ℕ, ◌≤◌, List, length, IfOk, Result, sym, subst, inl, inr, arith}
use Rattle.std.proofs.lemmas.List.{length_push}
use Rattle.std.proofs.lemmas.Bool.{cases_lt}
use Rattle.order.specs.declared.keys.RuleNumber.{RuleNumber}
use Rattle.order.specs.declared.keys.TrainTag.{TrainTag}
use Rattle.order.specs.declared.set.OrderedSet.{Ghosts}
use Rattle.line.specs.Consoles.{Answers, Tight}
use Rattle.line.specs.Printing.{lined}
use Rattle.line.specs.declared.console.Console.{Console}
use Rattle.line.specs.declared.fault.LineFault.{LineFault}

abbrev Bounded : Result ℕ LineFault → Type 0
Bounded r = IfOk r (λ n. n ≤ 1024)

pub bounded : {R Y : Type 0} (r : Ghosts R RuleNumber) (y : Ghosts Y TrainTag) (p q : Console R Y) (line out left : List ℕ) (n : Result ℕ LineFault)
    → Tight p q out left n → Answers r y p q line out left n → Bounded n
bounded r y p q line out left n tight answered =
    elim (cases_lt (length out) 1024) [
      | inl l ↦ subst Bounded (sym (tight.0 l).0) tt
      | inr h ↦
          let a = answered h in
          let e = length_push a.text 10 in
          let b : length (lined a.text) ≤ 1024 = omega (arith, a.acted.brief, e) in
          subst Bounded (sym a.length_is) b
    ]
