-- Why `remove_row` keeps its contract.
use Rattle.std.proofs.Common.{sym, ◌∙◌}
use Rattle.links.proofs.Orders.{held, here_at, here_row, one_less}
use Rattle.links.proofs.Rows.remove_row.Goals as goal

pub remove-place-requires : goal.remove-place-requires
remove-place-requires c =
    let o = held _ _ c.args.self.now.holds in
    let s = c.requires.1 in
    (_, (_, (here_row _ _ _ _ s.0 o s.1, (here_at _ _ _ s.0 o).2)))

pub invariant_of-self : goal.invariant_of-self
invariant_of-self c =
    let o = held _ _ c.args.self.now.holds in
    let s = c.requires.1 in
    record { holds = ∣ (one_less _ _ _ _ s.0 o (c.remove-place.ensures.put _ _ (here_row _ _ _ _ s.0 o s.1, (here_at _ _ _ s.0 o).2))).0 ∣₁ }

pub returns-clause-place : goal.returns-clause-place
returns-clause-place c i s =
    let o = held _ _ c.args.self.now.holds in
    c.remove-place.ensures.place _ _ (here_row _ _ _ _ s.0 o s.1, (here_at _ _ _ s.0 o).2) ∙ sym (here_at _ _ _ s.0 o).1

pub returns-clause-order : goal.returns-clause-order
returns-clause-order c i s =
    let o = held _ _ c.args.self.now.holds in
    (one_less _ _ _ _ s.0 o (c.remove-place.ensures.put _ _ (here_row _ _ _ _ s.0 o s.1, (here_at _ _ _ s.0 o).2))).1
