-- Why `set_link` keeps its contract.
use Rattle.links.proofs.Heads.{wrote_behind, wrote_head, in_rows}
use Rattle.links.proofs.Grid.set_link.Goals as goal

pub returns-then-row-eq0 : goal.returns-then-row-eq0
returns-then-row-eq0 c = wrote_head _ _ _ _ _ _ _ c.if-row-eq0.true c.set_link.ensures.after c.set_link.ensures.there

pub returns-else-row-eq0 : goal.returns-else-row-eq0
returns-else-row-eq0 c = wrote_behind _ _ _ _ _ _ _ c.if-row-eq0.false c.set_link-else-row-eq0.ensures.after c.set_link-else-row-eq0.ensures.there

pub bounds-self-row : goal.bounds-self-row
bounds-self-row c = in_rows _ _ _ c.requires.row c.if-row-eq0.false
