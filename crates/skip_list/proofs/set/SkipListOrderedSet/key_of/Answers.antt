-- Why `key_of` keeps its contract.
use Rattle.std.proofs.Common.{refl, arith}
use Rattle.skip_list.proofs.Readies.{length_kept}
use Rattle.skip_list.proofs.set.SkipListOrderedSet.key_of.Goals as goal

pub returns-then-place-self-clause-gives : goal.returns-then-place-self-clause-gives
returns-then-place-self-clause-gives g c = (omega (arith, length_kept c.args.self.now.lent, c.if-place-self.true), refl)
