-- Why `remove_key` keeps its contract.
use Rattle.std.proofs.Common.{refl, sym, ap, length, subst, arith}
use Rattle.std.proofs.lemmas.List.Edits.{length-remove}
use Rattle.order.specs.Order.{RemovesKey}
use Rattle.skip_list.specs.Lent.{means}
use Rattle.skip_list.proofs.Histories.{told_out}
use Rattle.skip_list.proofs.Sounds.{found_at, none_at, sound_out, whole_of}
use Rattle.skip_list.proofs.set.SkipListOrderedSet.remove_key.Goals as goal

pub returns-in_err-row-clause-removes : goal.returns-in_err-row-clause-removes
returns-in_err-row-clause-removes g c =
    subst (λ o. RemovesKey (means c.args.self.now.lent) c.args.key o (means c.args.self.now.lent)) (sym c.from_residual.ensures)
    (none_at g.K.Key.identity g.K.HashKey.hashed (whole_of _ _ g.met.K.Key.same) c.args.self.now.lent c.args.key (c.in_err-row.ensures.row _ c.args.self.now.sound.0), refl)

pub invariant_of-self : goal.invariant_of-self
invariant_of-self g c =
    let f = c.in_ok-row.ensures.row _ c.args.self.now.sound.0 in
    let a = found_at g.K.Key.identity g.K.HashKey.hashed (whole_of _ _ g.met.K.Key.same) c.args.self.now.lent c.args.key c.in_ok-row.row c.take.result f c.take.ensures.place in
    record {
      sound = sound_out g.K.Key.identity g.K.HashKey.hashed (whole_of _ _ g.met.K.Key.same) c.args.self.now.lent c.take.new.self c.take.result c.in_ok-row.row c.args.key c.take.ensures.keys c.take.ensures.kept c.take.ensures.chains a.0 f c.args.self.now.sound;
      fits = omega (arith, ap length c.take.ensures.kept, length-remove _ _ a.0, ap length c.take.ensures.keys, c.args.self.now.fits);
    }

pub returns-clause-removes : goal.returns-clause-removes
returns-clause-removes g c =
    let k = c.take.ensures.kept in
    let n = ap length c.take.ensures.keys in
    (found_at g.K.Key.identity g.K.HashKey.hashed (whole_of _ _ g.met.K.Key.same) c.args.self.now.lent c.args.key c.in_ok-row.row c.take.result (c.in_ok-row.ensures.row _ c.args.self.now.sound.0) c.take.ensures.place, cc)

pub returns-clause-told : goal.returns-clause-told
returns-clause-told g c = λ ds w.
    told_out ds c.args.self.now.lent c.take.new.self c.take.result w
    (found_at g.K.Key.identity g.K.HashKey.hashed (whole_of _ _ g.met.K.Key.same) c.args.self.now.lent c.args.key c.in_ok-row.row c.take.result (c.in_ok-row.ensures.row _ c.args.self.now.sound.0) c.take.ensures.place).0
    c.take.ensures.kept c.take.ensures.highs c.take.ensures.height
