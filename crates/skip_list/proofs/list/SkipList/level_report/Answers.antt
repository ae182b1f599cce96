-- Why `level_report` keeps its contract.
use Rattle.std.proofs.Common.{Some, sym, subst}
use Rattle.skip_list.specs.Lent.{kept}
use Rattle.skip_list.specs.Tower.{highs, Leveled}
use Rattle.skip_list.proofs.Histories.{level_told}
use Rattle.skip_list.proofs.Picks.{stands}
use Rattle.skip_list.proofs.Sounds.{chained, found_used, found_at, none_at, whole_of}
use Rattle.skip_list.proofs.list.SkipList.level_report.Goals as goal

pub returns-in_err-row : goal.returns-in_err-row
returns-in_err-row g c =
    let at : Leveled (kept c.args.self.now.lent) (highs c.args.self.now.lent) c.args.key c.from_residual.result = subst (λ o. Leveled (kept c.args.self.now.lent) (highs c.args.self.now.lent) c.args.key o) (sym c.from_residual.ensures) (none_at g.K.Key.identity g.K.HashKey.hashed (whole_of _ _ g.met.K.Key.same) c.args.self.now.lent c.args.key (c.in_err-row.ensures.row _ c.args.self.now.sound.0)) in
    record { level = at; told = λ ds w. level_told ds c.args.self.now.lent c.args.key _ w at }

pub level_at-requires : goal.level_at-requires
level_at-requires g c = stands _ _ (found_used c.args.self.now.lent (chained g.K.Key.identity g.K.HashKey.hashed c.args.self.now.lent c.args.self.now.sound) _ c.in_ok-row.row c.in_ok-row.ensures.used)

pub returns : goal.returns
returns g c =
    let f = c.in_ok-row.ensures.row _ c.args.self.now.sound.0 in
    let i = stands _ _ f.0 in
    let at : Leveled (kept c.args.self.now.lent) (highs c.args.self.now.lent) c.args.key (Some c.level_at.result) =
    (i.0, found_at g.K.Key.identity g.K.HashKey.hashed (whole_of _ _ g.met.K.Key.same) c.args.self.now.lent c.args.key c.in_ok-row.row i.0 f i.1, c.level_at.ensures i.0 i.1) in
    record { level = at; told = λ ds w. level_told ds c.args.self.now.lent c.args.key (Some c.level_at.result) w at }
