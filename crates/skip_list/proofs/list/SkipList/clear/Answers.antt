-- Why `clear` keeps its contract.
use Rattle.std.proofs.Common.{[], ap}
use Rattle.skip_list.specs.Lent.{keys_of, picked}
use Rattle.skip_list.proofs.Histories.{tells}
use Rattle.skip_list.proofs.list.SkipList.clear.Goals as goal

pub returns : goal.returns
returns g c =
    let s = c.clear.new.self in
    let e = ap (λ rows. picked (keys_of s) rows) c.clear.ensures.used in
    record {
      empty = e;
      room = c.clear.ensures.size;
      told = tells [] _ e c.clear.ensures.highs c.clear.ensures.height tt;
    }
