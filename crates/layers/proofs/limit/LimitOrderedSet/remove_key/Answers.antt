use Rattle.layers.proofs.Limits.{remove_capped}
use Rattle.layers.proofs.limit.LimitOrderedSet.remove_key.Goals as goal

pub returns-clause-removes : goal.returns-clause-removes
returns-clause-removes g c = (remove_capped _ _ _ _ c.remove_key.result c.args.self.now.holds c.remove_key.ensures.removes).0
