-- Why `insert_index` keeps its contract.
use Rattle.std.proofs.Common.{sym, refl, ◌∙◌}
use Rattle.skip_list.proofs.Sounds.{some_found, none_found, whole_of}
use Rattle.skip_list.proofs.set.SkipListOrderedSet.insert_index.Goals as goal

pub returns-then-is_some-clause-inserts : goal.returns-then-is_some-clause-inserts
returns-then-is_some-clause-inserts g c = (some_found g.K.Key.identity g.K.HashKey.hashed (whole_of _ _ g.met.K.Key.same) c.args.self.now.lent c.args.key c.find.result (sym c.is_some.ensures ∙ c.if-is_some.true) (c.find.ensures.row _ c.args.self.now.sound.0), refl)

pub put_absent-requires : goal.put_absent-requires
put_absent-requires g c = none_found g.K.Key.identity g.K.HashKey.hashed (whole_of _ _ g.met.K.Key.same) c.args.self.now.lent c.args.key c.find.result (sym c.is_some.ensures ∙ c.if-is_some.false) (c.find.ensures.row _ c.args.self.now.sound.0)
