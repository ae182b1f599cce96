-- With rule 9 before rule 4, turnout 12 and class F are decided by rule 9 and route 7, and nothing else is answered.
use Rattle.std.proofs.Common.{Some, Ok, refl, arith}
use Rattle.book.specs.Books.{Answers}
use Rattle.book.specs.Pages.{Pages, approach}
use Rattle.book.specs.Worked.{NineThenFour}
use Rattle.book.proofs.Working.{case_decided, nine_decides}
use Rattle.worked.specs.Cases.{Only}

pub decided : (v : Pages) → NineThenFour v → Only (λ r w. Answers (approach 12 70) r v w) (Ok (Some (9, 7))) v
decided v two =
    ((((omega arith, omega arith), (omega arith, omega arith), nine_decides v two), refl), λ r w answers. (case_decided v w r two answers, answers.1))
