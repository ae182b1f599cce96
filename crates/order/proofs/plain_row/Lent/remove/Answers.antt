use Rattle.order.proofs.Shifts.{closed}
use Rattle.order.proofs.plain_row.Lent.remove.Goals as goal

pub returns-clause-order : goal.returns-clause-order
returns-clause-order g c =
    let by = c.copy_within.ensures.by_index in
    closed _ _ _ _ c.requires c.args.self.now.within c.copy_within.ensures.len by.0 by.1
