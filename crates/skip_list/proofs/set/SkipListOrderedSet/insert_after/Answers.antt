-- Why `insert_after` keeps its contract.
use Rattle.std.proofs.Common.{List, sym, refl, ◌∙◌, subst, arith}
use Rattle.order.specs.Order.{At}
use Rattle.skip_list.specs.History.{Told}
use Rattle.skip_list.proofs.Histories.{told_next}
use Rattle.skip_list.proofs.Sounds.{chained, within, found_at, none_at, some_found, none_found, after_at_lem, whole_of}
use Rattle.skip_list.proofs.set.SkipListOrderedSet.insert_after.Goals as goal

pub returns-then-is_some-clause-inserts : goal.returns-then-is_some-clause-inserts
returns-then-is_some-clause-inserts g c = (some_found g.K.Key.identity g.K.HashKey.hashed (whole_of _ _ g.met.K.Key.same) c.args.self.now.lent c.args.key c.find.result (sym c.is_some.ensures ∙ c.if-is_some.true) (c.find.ensures.row _ c.args.self.now.sound.0), refl)

pub returns-in_default-clause-inserts : goal.returns-in_default-clause-inserts
returns-in_default-clause-inserts g c = (
  (
    none_found g.K.Key.identity g.K.HashKey.hashed (whole_of _ _ g.met.K.Key.same) c.args.self.now.lent c.args.key c.find.result (sym c.is_some.ensures ∙ c.if-is_some.false) (c.find.ensures.row _ c.args.self.now.sound.0),
    none_at g.K.Key.identity g.K.HashKey.hashed (whole_of _ _ g.met.K.Key.same) c.args.self.now.lent c.args.before (c.in_default.ensures.row _ c.args.self.now.sound.0),
  ),
  refl,
)

pub overflow_add-place : goal.overflow_add-place
overflow_add-place g c = omega (arith, c.place-place.ensures.0, within c.args.self.now.lent (chained g.K.Key.identity g.K.HashKey.hashed c.args.self.now.lent c.args.self.now.sound), c.args.self.now.lent.few)

pub put_absent-requires : goal.put_absent-requires
put_absent-requires g c = none_found g.K.Key.identity g.K.HashKey.hashed (whole_of _ _ g.met.K.Key.same) c.args.self.now.lent c.args.key c.find.result (sym c.is_some.ensures ∙ c.if-is_some.false) (c.find.ensures.row _ c.args.self.now.sound.0)

pub returns-clause-inserts : goal.returns-clause-inserts
returns-clause-inserts g c =
    after_at_lem _ _ c.args.before c.args.key c.place-place.result c.put_absent.result
    (found_at g.K.Key.identity g.K.HashKey.hashed (whole_of _ _ g.met.K.Key.same) c.args.self.now.lent c.args.before c.in-Some.row c.place-place.result (c.in-Some.ensures.row _ c.args.self.now.sound.0) c.place-place.ensures)
    c.put_absent.ensures.inserts

pub returns-clause-told : goal.returns-clause-told
returns-clause-told g c = λ ds w.
    told_next (λ es u. Told es u.lent) ds c.put_absent.new.self c.args.before c.args.key c.place-place.result c.args.draw c.put_absent.result
    (subst (λ (xs : List _). At xs c.place-place.result c.args.before) w.order
    (found_at g.K.Key.identity g.K.HashKey.hashed (whole_of _ _ g.met.K.Key.same) c.args.self.now.lent c.args.before c.in-Some.row c.place-place.result (c.in-Some.ensures.row _ c.args.self.now.sound.0) c.place-place.ensures))
    (c.put_absent.ensures.told ds w)
