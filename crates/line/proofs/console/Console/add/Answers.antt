-- An add whose rule is not lawful, and one that is a call.
use Rattle.std.proofs.Common.{Err, sym, refl, ap, ◌∙◌}
use Rattle.std.proofs.lemmas.Result.{err_from_is_err_and}
use Rattle.book.specs.Calls.{Carries}
use Rattle.book.specs.declared.call.Call.TheVariants.{Add}
use Rattle.book.specs.declared.fault.BookFault.{BookFault}
use Rattle.line.specs.Grammar.{adding, addition}
use Rattle.line.proofs.Acting.{done_placed, done_unfit}
use Rattle.line.proofs.console.Console.add.Goals as goal

pub returns-in_err-rule : goal.returns-in_err-rule
returns-in_err-rule g c =
    let p = err_from_is_err_and c.from_residual.result c.from_residual.ensures.1 in
    let bad = c.in_err-rule.ensures in
    done_unfit g.R.OrderedSet g.Y.OrderedSet _ _ (adding (addition c.args.added)) (c.next-draw.ensures.state ∙ c.next-draw.ensures.draw)
    c.from_residual.result (p.1 ∙ ap (λ (f : BookFault). Err f) (p.2 ∙ bad.0)) bad.1 refl

pub returns : goal.returns
unfolding Carries
returns g c =
    done_placed g.R.OrderedSet g.Y.OrderedSet _ _ (adding (addition c.args.added)) (c.next-draw.ensures.state ∙ c.next-draw.ensures.draw)
    (Add c.args.added.number c.in_ok-rule.rule c.from.result c.next-draw.result) c.add.result c.map.result c.map.ensures.cases
    (c.in_ok-rule.rule, c.in_ok-rule.ensures, λ i. Add c.args.added.number c.in_ok-rule.rule (c.from.ensures i) (sym c.next-draw.ensures.state i))
    (c.add.result, refl, c.add.ensures.adds, ap g.Y.OrderedSet.meaning c.add.ensures.yard)
    (λ no. (c.add.ensures.kept no, ap g.Y.OrderedSet.body c.add.ensures.yard))
