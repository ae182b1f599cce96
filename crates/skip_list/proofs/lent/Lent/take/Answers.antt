-- Why `take` keeps its contract.
use Rattle.std.proofs.Common.{ℕ, List, get_or, length, sym, ap, subst, arith}
use Rattle.order.specs.Order.{At}
use Rattle.skip_list.specs.declared.lent.Lent.{Lent}
use Rattle.skip_list.specs.Lent.{used}
use Rattle.skip_list.proofs.Picks.{stands}
use Rattle.skip_list.proofs.Readies.{ready, row_low, linked_at}
use Rattle.skip_list.proofs.Moves.{kept_out, highs_out, chained_out}
use Rattle.skip_list.proofs.lent.Lent.take.Goals as goal

pub unlink-requires : goal.unlink-requires
unlink-requires g c = let i = stands _ _ c.requires in row_low c.args.self.now _ _ i.1

pub overflow_add-row : goal.overflow_add-row
overflow_add-row g c = let i = stands _ _ c.requires in let low = row_low c.args.self.now _ c.args.row i.1 in omega (arith, low, (ready c.args.self.now).few)

pub remove_row-requires : goal.remove_row-requires
remove_row-requires g c = let i = stands _ _ c.requires in (i.0, linked_at c.args.self.now _ _ i.1)

pub returns : goal.returns
returns g c =
    let s = c.args.self.now in
    let k = c.unlink.ensures.keys in
    let v = c.remove_row.ensures.levels in
    let t : Lent _ = record { index = c.unlink.new.self; links = c.remove_row.new.self; few = omega (arith, ap length k, (ready s).few); sized = omega (arith, ap length k, ap length v, (ready s).sized) } in
    let i = stands _ _ c.requires in
    let q = linked_at s i.0 c.args.row i.1 in
    let a : At (used s) c.remove_row.result c.args.row =
    subst (λ (x : ℕ). At (used s) x c.args.row) (sym (c.remove_row.ensures.place i.0 q)) i.1 in
    let o = c.remove_row.ensures.order c.remove_row.result (linked_at s c.remove_row.result c.args.row a) in
    record {
      place = a;
      keys = k;
      kept = kept_out s t c.remove_row.result c.args.row a k o;
      highs = highs_out s t c.remove_row.result c.args.row a k o v;
      height = ap (λ (ls : List ℕ). get_or ls 0 0) v;
      chains = λ home there x. chained_out s t c.remove_row.result c.args.row a k o home (λ rows j. c.unlink.ensures.chains home rows there j) x;
    }
