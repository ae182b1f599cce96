use Rattle.std.proofs.Common.{◌<◌, length, arith}
use Rattle.layers.proofs.Limits.{insert_after_capped}
use Rattle.layers.proofs.limit.LimitOrderedSet.insert_after.Goals as goal

pub returns-then-length-self-clause-inserts : goal.returns-then-length-self-clause-inserts
returns-then-length-self-clause-inserts g c =
    let low : length (g.S.OrderedSet.meaning c.args.self.now.below).order < c.args.self.now.most = omega (arith, c.length.ensures) in
    (insert_after_capped _ _ _ _ _ c.insert_after.result low c.args.self.now.within c.insert_after.ensures.inserts).0
