-- Why `new` keeps its contract.
use Rattle.std.proofs.Common.{ℕ, [], length, sym, ap, subst}
use Rattle.skip_list.specs.Memory.{Usable}
use Rattle.skip_list.specs.Lent.{keys_of, picked}
use Rattle.skip_list.proofs.Histories.{tells}
use Rattle.skip_list.proofs.list.SkipList.new.Goals as goal

pub returns : goal.returns
returns g c =
    let s = c.new-lent.result in
    let e = ap (λ rows. picked (keys_of s) rows) c.new-lent.ensures.used in
    record {
      empty = e;
      room = subst (λ (n : ℕ). Usable (length c.args.keys.now) (length c.args.rows.now) (length c.args.slots.now) n) (sym c.new-lent.ensures.size) c.usable_rows-n.ensures;
      told = tells [] _ e c.new-lent.ensures.highs c.new-lent.ensures.height tt;
    }
