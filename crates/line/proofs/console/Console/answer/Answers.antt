-- The answer of the line is printed.
use Rattle.line.proofs.Telling.{answered}
use Rattle.line.proofs.console.Console.answer.Goals as goal

pub returns-clause-answers : goal.returns-clause-answers
returns-clause-answers g c = λ _. answered g.R.OrderedSet g.Y.OrderedSet _ _ _ c.act-outcome.result _ _ _ c.act-outcome.ensures c.print.ensures
