-- Rows that hold an order: their cells, and the rows of the order.
use Rattle.std.specs.Prelude.{ℕ, List}
use Rattle.links.specs.declared.Row.{Row}
use Rattle.links.specs.declared.Rows.{Rows}
use Rattle.links.specs.Cell.{laid}
use Rattle.links.specs.Ring.{order}
pub use Rattle.links.specs.Cell.{levels, view}

-- the rows by number, the head in front
abbrev pub cells : Rows → List Row
cells s = laid s.grid

-- the rows of the order, the first in front
abbrev pub sequence : Rows → List ℕ
sequence s = order (cells s) s.len
