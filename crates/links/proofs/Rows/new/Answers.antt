-- Why `new` keeps its contract.
use Rattle.std.proofs.Common.{◌∷◌, sym, refl, ◌∙◌, arith}
use Rattle.links.proofs.Heads.{length_levels, levels_head}
use Rattle.links.proofs.Levels.{ring_new}
use Rattle.links.proofs.Orders.{order_none, holds_none}
use Rattle.links.proofs.Rows.new.Goals as goal

pub invariant_of-result : goal.invariant_of-result
invariant_of-result c = let h = c.around.ensures in record { holds = ∣ holds_none _ (ring_new c.around.result c.args.rows.now h.level_is h.links_are) ∣₁ }

pub returns-clause-empty : goal.returns-clause-empty
returns-clause-empty c = order_none (c.around.result ∷ c.args.rows.now)

pub returns-clause-sized : goal.returns-clause-sized
returns-clause-sized c = length_levels (c.around.result ∷ c.args.rows.now) ∙ omega arith

pub returns-clause-height : goal.returns-clause-height
returns-clause-height c = sym (levels_head c.around.result c.args.rows.now 0 refl) ∙ c.around.ensures.level_is
