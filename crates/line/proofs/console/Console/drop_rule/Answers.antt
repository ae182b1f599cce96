-- A drop is a call.
use Rattle.std.proofs.Common.{refl, ap}
use Rattle.book.specs.Calls.{Carries}
use Rattle.book.specs.declared.call.Call.TheVariants.{Drop}
use Rattle.line.specs.Grammar.{dropping}
use Rattle.line.proofs.Acting.{done_placed}
use Rattle.line.proofs.console.Console.drop_rule.Goals as goal

pub returns : goal.returns
unfolding Carries
returns g c =
    done_placed g.R.OrderedSet g.Y.OrderedSet _ _ (dropping c.args.number) refl (Drop c.args.number) c.drop_rule.result c.map.result c.map.ensures.cases refl
    (c.drop_rule.result, refl, c.drop_rule.ensures.drops, ap g.Y.OrderedSet.meaning c.drop_rule.ensures.yard)
    (λ no. (c.drop_rule.ensures.kept no, ap g.Y.OrderedSet.body c.drop_rule.ensures.yard))
