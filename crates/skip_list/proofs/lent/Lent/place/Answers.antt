-- Why `place` keeps its contract.
use Rattle.std.proofs.Common.{ℕ, sym, subst, arith}
use Rattle.order.specs.Order.{At}
use Rattle.skip_list.specs.Lent.{used}
use Rattle.skip_list.proofs.Picks.{stands}
use Rattle.skip_list.proofs.Readies.{linked_at, ready, row_low}
use Rattle.skip_list.proofs.lent.Lent.place.Goals as goal

pub overflow_add-row : goal.overflow_add-row
overflow_add-row g c =
    let i = stands _ _ c.requires in
    let low = row_low c.args.self.now i.0 c.args.row i.1 in
    omega (arith, low, (ready c.args.self.now).few)

pub index_of-requires : goal.index_of-requires
index_of-requires g c = let i = stands _ _ c.requires in (i.0, linked_at c.args.self.now i.0 c.args.row i.1)

pub returns : goal.returns
returns g c =
    let i = stands _ _ c.requires in
    subst (λ (x : ℕ). At (used c.args.self.now) x c.args.row) (sym (c.index_of.ensures i.0 (linked_at c.args.self.now i.0 c.args.row i.1))) i.1
