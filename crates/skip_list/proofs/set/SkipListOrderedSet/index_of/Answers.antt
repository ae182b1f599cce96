-- Why `index_of` keeps its contract.
use Rattle.std.proofs.Common.{sym, refl, subst}
use Rattle.order.specs.Order.{Found}
use Rattle.skip_list.specs.Lent.{kept}
use Rattle.skip_list.proofs.Sounds.{found_at, none_at, whole_of}
use Rattle.skip_list.proofs.set.SkipListOrderedSet.index_of.Goals as goal

pub returns-in_err-row-clause-finds : goal.returns-in_err-row-clause-finds
returns-in_err-row-clause-finds g c = (
  subst (λ o. Found (kept c.args.self.now.lent) c.args.key o) (sym c.from_residual.ensures)
      (none_at g.K.Key.identity g.K.HashKey.hashed (whole_of _ _ g.met.K.Key.same) c.args.self.now.lent c.args.key (c.in_err-row.ensures.row _ c.args.self.now.sound.0)),
  refl,
)

pub returns-clause-finds : goal.returns-clause-finds
returns-clause-finds g c = (found_at g.K.Key.identity g.K.HashKey.hashed (whole_of _ _ g.met.K.Key.same) c.args.self.now.lent c.args.key c.in_ok-row.row c.place.result (c.in_ok-row.ensures.row _ c.args.self.now.sound.0) c.place.ensures, refl)
