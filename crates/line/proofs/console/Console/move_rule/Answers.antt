-- A move is a call.
use Rattle.std.proofs.Common.{sym, refl, ap, ◌∙◌}
use Rattle.book.specs.Calls.{Carries}
use Rattle.book.specs.declared.call.Call.TheVariants.{Move}
use Rattle.line.specs.Grammar.{moving}
use Rattle.line.proofs.Acting.{done_placed}
use Rattle.line.proofs.console.Console.move_rule.Goals as goal

pub returns : goal.returns
unfolding Carries
returns g c =
    done_placed g.R.OrderedSet g.Y.OrderedSet _ _ (moving c.args.number c.args.place) (c.next-draw.ensures.state ∙ c.next-draw.ensures.draw)
    (Move c.args.number c.from.result c.next-draw.result) c.move_rule.result c.map.result c.map.ensures.cases
    (λ i. Move c.args.number (c.from.ensures i) (sym c.next-draw.ensures.state i))
    (c.move_rule.result, refl, c.move_rule.ensures.moves, ap g.Y.OrderedSet.meaning c.move_rule.ensures.yard)
    (λ no. (c.move_rule.ensures.kept no, ap g.Y.OrderedSet.body c.move_rule.ensures.yard))
