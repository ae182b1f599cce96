-- Why `remove_index` keeps its contract.
use Rattle.std.proofs.Common.{refl, ap, length, arith}
use Rattle.std.proofs.lemmas.List.Edits.{length-remove}
use Rattle.skip_list.proofs.Histories.{told_out}
use Rattle.skip_list.proofs.Readies.{length_kept}
use Rattle.skip_list.proofs.Sounds.{sound_taken, whole_of}
use Rattle.skip_list.proofs.set.SkipListOrderedSet.remove_index.Goals as goal

pub returns-then-place-self-clause-removes : goal.returns-then-place-self-clause-removes
returns-then-place-self-clause-removes g c = (omega (arith, length_kept c.args.self.now.lent, c.if-place-self.true), refl)

pub invariant_of-self : goal.invariant_of-self
invariant_of-self g c =
    let t = c.take_at.ensures.taken in
    record {
      sound = sound_taken g.K.Key.identity g.K.HashKey.hashed (whole_of _ _ g.met.K.Key.same) c.args.self.now.lent c.take_at.new.self c.args.place c.take_at.result t c.take_at.ensures.chains c.args.self.now.sound;
      fits = omega (arith, ap length t.order_left, length-remove _ _ t.stood.0, ap length t.keys_stay, c.args.self.now.fits);
    }

pub returns-clause-told : goal.returns-clause-told
returns-clause-told g c = λ ds w.
    let t = c.take_at.ensures.taken in
    told_out ds c.args.self.now.lent c.take_at.new.self c.args.place w t.stood.0 t.order_left t.levels_left t.height_stays
