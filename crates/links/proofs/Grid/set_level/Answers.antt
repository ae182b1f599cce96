-- Why `set_level` keeps its contract.
use Rattle.links.proofs.Heads.{in_rows}
use Rattle.links.proofs.Levels.{leveled_head, leveled_behind}
use Rattle.links.proofs.Grid.set_level.Goals as goal

pub bounds-self-row : goal.bounds-self-row
bounds-self-row c = in_rows _ _ _ c.requires c.if-row-eq0.false

pub returns-then-row-eq0 : goal.returns-then-row-eq0
returns-then-row-eq0 c = leveled_head _ _ _ _ c.if-row-eq0.true

pub returns-else-row-eq0 : goal.returns-else-row-eq0
returns-else-row-eq0 c = leveled_behind _ _ _ _ c.if-row-eq0.false
