use Rattle.std.proofs.Common.{◌<◌, length, arith}
use Rattle.layers.proofs.Limits.{insert_capped}
use Rattle.layers.proofs.limit.LimitOrderedSet.insert_index.Goals as goal

pub returns-then-length-self-clause-inserts : goal.returns-then-length-self-clause-inserts
returns-then-length-self-clause-inserts g c =
    let low : length (g.S.OrderedSet.meaning c.args.self.now.below).order < c.args.self.now.most = omega (arith, c.length-length.ensures) in
    (insert_capped _ _ _ _ _ c.insert_index.result low c.args.self.now.within c.insert_index.ensures.inserts).0
