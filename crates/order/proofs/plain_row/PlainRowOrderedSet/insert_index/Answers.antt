use Rattle.std.proofs.Common.{sym, ◌∙◌, subst, arith}
use Rattle.std.proofs.lemmas.List.{length-take-le}
use Rattle.order.specs.Order.{Distinct}
use Rattle.order.specs.Plain.{told_apart}
use Rattle.order.proofs.Places.{apart_inserted, none_found}
use Rattle.order.proofs.plain_row.PlainRowOrderedSet.insert_index.Goals as goal

pub invariant_of-self : goal.invariant_of-self
invariant_of-self g c =
    let l = length-take-le c.args.self.now.lent.len c.args.self.now.lent.keys.now (omega arith) in
    let n = none_found _ _ c.find.result c.find.ensures (sym c.is_some.ensures ∙ c.if-is_some.false) in
    record { apart = ∣ subst Distinct (sym c.put.ensures.order) (apart_inserted _ _ _ (omega arith) n (told_apart _ c.args.self.now.apart)) ∣₁ }
