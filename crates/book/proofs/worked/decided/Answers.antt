-- What a book with 9 before 4 decides.
use Rattle.book.proofs.Working.{case_decided}
use Rattle.book.proofs.worked.decided.Goals as goal

pub returns : goal.returns
returns g c = λ vacant. case_decided _ _ c.decide.result (c.in_ok-nine_then_four.ensures vacant) c.decide.ensures.decides
