-- Why `link` keeps its contract.
use Rattle.std.proofs.Common.{◌∙◌}
use Rattle.links.proofs.Heads.{view_behind, view_head, in_rows}
use Rattle.links.proofs.Grid.link.Goals as goal

pub returns-then-row-eq0 : goal.returns-then-row-eq0
returns-then-row-eq0 c = c.link.ensures ∙ view_head _ _ _ _ _ c.if-row-eq0.true

pub returns-else-row-eq0 : goal.returns-else-row-eq0
returns-else-row-eq0 c = c.link-else-row-eq0.ensures ∙ view_behind _ _ _ _ _ c.if-row-eq0.false

pub bounds-rows-row : goal.bounds-rows-row
bounds-rows-row c = in_rows _ _ _ c.requires.row c.if-row-eq0.false
