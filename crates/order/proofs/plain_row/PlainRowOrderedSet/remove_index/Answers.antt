use Rattle.std.proofs.Common.{sym, subst, arith}
use Rattle.std.proofs.lemmas.List.{length-take-le}
use Rattle.order.specs.Order.{Distinct}
use Rattle.order.specs.Plain.{told_apart}
use Rattle.order.proofs.Places.{apart_removed}
use Rattle.order.proofs.plain_row.PlainRowOrderedSet.remove_index.Goals as goal

pub invariant_of-self : goal.invariant_of-self
invariant_of-self g c =
    let l = length-take-le c.args.self.now.lent.len c.args.self.now.lent.keys.now (omega arith) in
    record { apart = ∣ subst Distinct (sym c.remove.ensures.order) (apart_removed _ _ (omega arith) (told_apart _ c.args.self.now.apart)) ∣₁ }
