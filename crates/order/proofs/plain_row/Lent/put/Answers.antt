use Rattle.order.proofs.Shifts.{opened}
use Rattle.order.proofs.plain_row.Lent.put.Goals as goal

pub returns-clause-order : goal.returns-clause-order
returns-clause-order g c =
    let by = c.copy_within.ensures.by_index in
    opened _ _ _ _ _ c.requires.place c.requires.room c.copy_within.ensures.len by.0 by.1
