-- A line that says nothing, and one that says a command.
use Rattle.std.proofs.Common.{Err, refl, ap, ◌∙◌}
use Rattle.std.proofs.lemmas.Result.{err_from_is_err_and}
use Rattle.line.specs.Answers.{printed}
use Rattle.line.specs.Grammar.{asked}
use Rattle.line.specs.declared.fault.LineFault.{LineFault}
use Rattle.line.proofs.Lining.{climbed, line_bad, line_done}
use Rattle.line.proofs.console.Console.act.Goals as goal

pub returns-in_err-command : goal.returns-in_err-command
returns-in_err-command g c =
    let p = err_from_is_err_and c.from_residual.result c.from_residual.ensures.1 in
    let bad = c.in_err-command.ensures in
    line_bad g.R.OrderedSet g.Y.OrderedSet _ _ _ c.from_residual.result (p.1 ∙ ap (λ (f : LineFault). Err f) (p.2 ∙ bad.0)) bad.1 refl

pub returns : goal.returns
returns g c =
    line_done g.R.OrderedSet g.Y.OrderedSet _ _ _ (asked c.in_ok-command.command) _ _ (ap printed (climbed _ _ c.map_err.ensures.cases)) c.in_ok-command.ensures.0 c.carry.ensures
