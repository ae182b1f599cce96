-- So far the first numbers are written.
use Rattle.std.proofs.Common.{map, take, decimal}
use Rattle.line.specs.Pages.{Puts}
use Rattle.line.specs.Words.{spread}
use Rattle.line.proofs.page.Page.spread.Given as goal

abbrev pub invariant-loop-number : goal.invariant-loop-number
invariant-loop-number l = Puts l.initial.self (spread (map decimal (take l.number-index l.numbers))) l.self
