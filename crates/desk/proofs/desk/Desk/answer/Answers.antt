use Rattle.desk.proofs.Bounds.{bounded}
use Rattle.desk.proofs.desk.Desk.answer.Goals as goal

pub returns-clause-bound : goal.returns-clause-bound
returns-clause-bound c = bounded _ _ _ _ _ _ _ _ c.answer.ensures.small c.answer.ensures.answers
