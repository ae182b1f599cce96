-- The history of a new panel over empty sets begins with nothing.
use Rattle.std.proofs.Common.{[]}
use Rattle.book.specs.Yards.{opens}
use Rattle.book.proofs.panel.Panel.after.Goals as goal

pub returns-clause-law : goal.returns-clause-law
returns-clause-law g c = λ none empty.
    (c.run.ensures.law (opens g.R.OrderedSet g.Y.OrderedSet c.args.rules c.args.yard) [] (c.new-panel.ensures.begins none empty)).1
