-- Why `length` keeps its contract.
use Rattle.std.proofs.Common.{sym}
use Rattle.skip_list.proofs.Readies.{length_kept}
use Rattle.skip_list.proofs.set.SkipListOrderedSet.length.Goals as goal

pub returns : goal.returns
returns g c = sym (length_kept c.args.self.now.lent)
