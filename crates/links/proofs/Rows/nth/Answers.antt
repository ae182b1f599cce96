-- Why `nth` keeps its contract.
use Rattle.links.proofs.Orders.{held, here_at, here_row, found}
use Rattle.links.proofs.Rows.nth.Goals as goal

pub row_at-requires : goal.row_at-requires
row_at-requires c =
    let h = here_at _ _ _ c.requires (held _ _ c.args.self.now.holds) in
    (_, (_, (_, ((h.0, h.2), h.1))))

pub returns : goal.returns
returns c =
    let h = held _ _ c.args.self.now.holds in
    let is = found _ _ _ _ c.requires h c.row_at.ensures in
    let g = here_row _ _ _ _ c.requires h is in
    record { row = is; low = g.sound.1.0.0.0; high = g.sound.1.0.0.1 }
