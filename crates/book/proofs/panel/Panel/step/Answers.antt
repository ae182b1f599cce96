-- A call carried out makes a history one turn longer.
use Rattle.book.proofs.Departing.{go_on}
use Rattle.book.proofs.panel.Panel.step.Goals as goal

pub returns-clause-law : goal.returns-clause-law
returns-clause-law g c = λ start h follows. go_on start h _ follows _ c.args.call c.carry.result c.carry.ensures.answers
