-- The command read is the one that the line says.
use Rattle.std.proofs.Common.{Result, sym, subst, arith, ltb-false}
use Rattle.line.specs.Grammar.{Reads}
use Rattle.line.specs.declared.command.Command.{Command}
use Rattle.line.specs.declared.fault.LineFault.{LineFault}
use Rattle.line.proofs.Said.{read_line}
use Rattle.line.proofs.reader.parse.Goals as goal

pub returns : goal.returns
returns c =
    subst (λ (r : Result Command LineFault). Reads c.args.line.now r) (sym c.ok_or.ensures.value)
    (read_line c.args.line.now (omega (arith, ltb-false)) (c.is_line.ensures.0 c.if-not-is_line.false) _ c.command.ensures)
