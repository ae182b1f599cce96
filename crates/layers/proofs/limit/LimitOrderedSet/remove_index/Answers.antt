use Rattle.layers.proofs.Limits.{remove_at_capped}
use Rattle.layers.proofs.limit.LimitOrderedSet.remove_index.Goals as goal

pub returns-clause-removes : goal.returns-clause-removes
returns-clause-removes g c = (remove_at_capped _ _ _ _ c.remove_index.result c.args.self.now.holds c.remove_index.ensures.removes).0
