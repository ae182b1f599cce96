-- Why `level_of` keeps its contract.
use Rattle.links.proofs.Heads.{levels_behind, levels_head, in_rows}
use Rattle.links.proofs.Grid.level_of.Goals as goal

pub returns-then-row-eq0 : goal.returns-then-row-eq0
returns-then-row-eq0 c = levels_head _ _ _ c.if-row-eq0.true

pub returns-else-row-eq0 : goal.returns-else-row-eq0
returns-else-row-eq0 c = levels_behind _ _ _ c.if-row-eq0.false

pub bounds-self-row : goal.bounds-self-row
bounds-self-row c = in_rows _ _ _ c.requires c.if-row-eq0.false
