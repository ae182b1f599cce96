-- Why `put_absent` keeps its contract.
use Rattle.std.proofs.Common.{◌≡◌, length, refl, ap, ◌∙◌, arith}
use Rattle.std.proofs.lemmas.List.{length-set}
use Rattle.std.proofs.lemmas.List.Edits.{length-insert}
use Rattle.skip_list.specs.Lent.{keys_of, kept, size}
use Rattle.skip_list.proofs.Histories.{told_put}
use Rattle.skip_list.proofs.Readies.{length_used, length_kept}
use Rattle.skip_list.proofs.Sounds.{chained, entering, none_free, row_free, sound_put, whole_of}
use Rattle.skip_list.proofs.list.SkipList.put_absent.Goals as goal

pub returns-then-place-self-clause-inserts : goal.returns-then-place-self-clause-inserts
returns-then-place-self-clause-inserts g c = ((c.requires, omega (arith, length_kept c.args.self.now.lent, c.if-place-self.true)), refl)

pub returns-then-full-clause-inserts : goal.returns-then-full-clause-inserts
returns-then-full-clause-inserts g c =
    let l = length_kept c.args.self.now.lent in (
      (
        c.requires,
        omega (arith, l, c.if-place-self.false),
        omega (arith, l, length_used c.args.self.now.lent, none_free c.args.self.now.lent (chained g.K.Key.identity g.K.HashKey.hashed c.args.self.now.lent c.args.self.now.sound) (c.full.ensures.yes c.if-full.true)),
      ),
      refl,
    )

pub put-requires : goal.put-requires
put-requires g c =
    entering c.args.self.now.lent (chained g.K.Key.identity g.K.HashKey.hashed c.args.self.now.lent c.args.self.now.sound) c.args.place c.level_of-level.result
    c.if-place-self.false (c.full.ensures.no c.if-full.false) c.level_of-level.ensures.low c.level_of-level.ensures.high

pub invariant_of-self : goal.invariant_of-self
invariant_of-self g c =
    let l = length_kept c.args.self.now.lent in
    let low = c.full.ensures.no c.if-full.false in
    let k = c.put.ensures.kept in
    record {
      sound = sound_put g.K.Key.identity g.K.HashKey.hashed (whole_of _ _ g.met.K.Key.same) c.args.self.now.lent c.put.new.self c.args.place c.args.key low c.put.ensures.keys k c.put.ensures.chains (omega (arith, l, c.if-place-self.false)) c.requires c.args.self.now.sound;
      fits = omega (arith, ap length k, length-insert (kept c.args.self.now.lent) c.args.place c.args.key (omega (arith, l, c.if-place-self.false)), ap length c.put.ensures.keys, length-set (keys_of c.args.self.now.lent) c.args.self.now.lent.index.free c.args.key, l, length_used c.args.self.now.lent, (row_free c.args.self.now.lent (chained g.K.Key.identity g.K.HashKey.hashed c.args.self.now.lent c.args.self.now.sound) low).0);
    }

pub returns-clause-inserts : goal.returns-clause-inserts
returns-clause-inserts g c =
    let l = length_kept c.args.self.now.lent in
    let low = c.full.ensures.no c.if-full.false in
    let k = c.put.ensures.kept in
    let n : size c.put.new.self ≡ size c.args.self.now.lent = ap length c.put.ensures.keys ∙ length-set _ _ _ in (
      (
        c.requires,
        omega (arith, l, c.if-place-self.false),
        omega (arith, l, length_used c.args.self.now.lent, (row_free c.args.self.now.lent (chained g.K.Key.identity g.K.HashKey.hashed c.args.self.now.lent c.args.self.now.sound) low).0),
      ),
      cc,
    )

pub returns-clause-told : goal.returns-clause-told
returns-clause-told g c = λ ds w.
    told_put ds c.args.self.now.lent c.put.new.self c.args.place c.args.key c.args.draw c.level_of-level.result w c.requires
    (omega (arith, length_kept c.args.self.now.lent, c.if-place-self.false)) c.put.ensures.kept c.put.ensures.highs c.put.ensures.height c.level_of-level.ensures.level
