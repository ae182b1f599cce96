-- The number and the word of each refusal that a line is given.
use Rattle.std.specs.Prelude.{ℕ, List, codes}
use Rattle.book.specs.Faults.{fault_number, fault_word}
use Rattle.line.specs.declared.fault.LineFault.{LineFault}
use Rattle.line.specs.declared.fault.LineFault.TheVariants.{Book, BadLine, SmallOut}

abbrev pub line_number : LineFault → ℕ
line_number (Book f) = fault_number f
line_number BadLine = 20
line_number SmallOut = 21

abbrev pub line_word : LineFault → List ℕ
line_word (Book f) = fault_word f
line_word BadLine = codes "line"
line_word SmallOut = codes "line"
