-- Why `clear` keeps its contract.
use Rattle.std.proofs.Common.{◌∷◌, sym, refl, ◌∙◌}
use Rattle.links.proofs.Heads.{length_levels, levels_head}
use Rattle.links.proofs.Levels.{ring_new}
use Rattle.links.proofs.Orders.{order_none, holds_none}
use Rattle.links.proofs.Rows.clear.Goals as goal

pub invariant_of-self : goal.invariant_of-self
invariant_of-self c =
    let h = c.around-self.ensures in
    record { holds = ∣ holds_none _ (ring_new c.around-self.result c.args.self.now.grid.rows.now h.level_is h.links_are) ∣₁ }

pub returns-clause-empty : goal.returns-clause-empty
returns-clause-empty c = order_none (c.around-self.result ∷ c.args.self.now.grid.rows.now)

pub returns-clause-sized : goal.returns-clause-sized
returns-clause-sized c =
    let rows = c.args.self.now.grid.rows.now in
    length_levels (c.around-self.result ∷ rows) ∙ sym (length_levels (c.args.self.now.grid.head ∷ rows))

pub returns-clause-height : goal.returns-clause-height
returns-clause-height c = sym (levels_head c.around-self.result c.args.self.now.grid.rows.now 0 refl) ∙ c.around-self.ensures.level_is
