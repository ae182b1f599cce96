-- Why `key_links` keeps its contract.
use Rattle.std.proofs.Common.{arith}
use Rattle.skip_list.proofs.Picks.{stands}
use Rattle.skip_list.proofs.Sounds.{chained, found_used, found_at, none_at, whole_of}
use Rattle.skip_list.proofs.list.SkipList.key_links.Goals as goal

pub returns-in_default : goal.returns-in_default
returns-in_default g c = none_at g.K.Key.identity g.K.HashKey.hashed (whole_of _ _ g.met.K.Key.same) c.args.self.now.lent c.args.key (c.in_default.ensures.row _ c.args.self.now.sound.0)

pub level_at-requires : goal.level_at-requires
level_at-requires g c = stands _ _ (found_used c.args.self.now.lent (chained g.K.Key.identity g.K.HashKey.hashed c.args.self.now.lent c.args.self.now.sound) _ c.in-Some.row c.in-Some.ensures.used)

pub returns-then-level-level_at : goal.returns-then-level-level_at
returns-then-level-level_at g c =
    let f = c.in-Some.ensures.row _ c.args.self.now.sound.0 in
    let i = stands _ _ f.0 in (
      i.0,
      found_at g.K.Key.identity g.K.HashKey.hashed (whole_of _ _ g.met.K.Key.same) c.args.self.now.lent c.args.key c.in-Some.row i.0 f i.1,
      omega (arith, c.level_at.ensures i.0 i.1, c.if-level-level_at.true),
    )

pub links_at-requires : goal.links_at-requires
links_at-requires g c =
    let i = stands _ _ (found_used c.args.self.now.lent (chained g.K.Key.identity g.K.HashKey.hashed c.args.self.now.lent c.args.self.now.sound) _ c.in-Some.row c.in-Some.ensures.used) in
    (i.0, i.1, omega (arith, c.level_at.ensures i.0 i.1, c.if-level-level_at.false))

pub returns : goal.returns
returns g c =
    let f = c.in-Some.ensures.row _ c.args.self.now.sound.0 in
    let i = stands _ _ f.0 in (
      i.0,
      found_at g.K.Key.identity g.K.HashKey.hashed (whole_of _ _ g.met.K.Key.same) c.args.self.now.lent c.args.key c.in-Some.row i.0 f i.1,
      omega (arith, c.level_at.ensures i.0 i.1, c.if-level-level_at.false),
      c.links_at.ensures i.0 i.1 (omega (arith, c.level_at.ensures i.0 i.1, c.if-level-level_at.false)),
    )
