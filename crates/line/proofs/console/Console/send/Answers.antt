-- A send is a call.
use Rattle.std.proofs.Common.{refl}
use Rattle.book.specs.Calls.{Carries}
use Rattle.book.specs.declared.call.Call.TheVariants.{Send}
use Rattle.line.specs.Grammar.{sending}
use Rattle.line.proofs.Acting.{done_sent}
use Rattle.line.proofs.console.Console.send.Goals as goal

pub returns : goal.returns
unfolding Carries
returns g c =
    done_sent g.R.OrderedSet g.Y.OrderedSet _ _ (sending c.args.turnout) refl (Send c.args.turnout) c.send.result c.map.result c.map.ensures.cases refl
    (c.send.result, refl, c.send.ensures.sends) c.send.ensures.kept
