-- Why `take_at` keeps its contract.
use Rattle.std.proofs.Common.{ℕ, ◌-◌, List, get_or, length, ap, arith}
use Rattle.skip_list.specs.declared.lent.Lent.{Lent}
use Rattle.skip_list.proofs.Moves.{kept_out, highs_out, chained_out}
use Rattle.skip_list.proofs.Readies.{ready, row_there}
use Rattle.skip_list.proofs.Sounds.{there}
use Rattle.skip_list.proofs.lent.Lent.take_at.Goals as goal

pub overflow_sub-row : goal.overflow_sub-row
overflow_sub-row g c = (row_there c.args.self.now _ _ c.requires c.remove_at-row.ensures.row).0

pub key_in-key-requires : goal.key_in-key-requires
key_in-key-requires g c =
    let q = row_there c.args.self.now _ _ c.requires c.remove_at-row.ensures.row in
    let low = q.0 in let high = q.1 in omega (arith, low, high)

pub unlink-requires : goal.unlink-requires
unlink-requires g c =
    let q = row_there c.args.self.now _ _ c.requires c.remove_at-row.ensures.row in
    let low = q.0 in let high = q.1 in omega (arith, low, high)

pub returns : goal.returns
returns g c =
    let s = c.args.self.now in
    let k = c.unlink.ensures.keys in
    let o = c.remove_at-row.ensures.order in
    let v = c.remove_at-row.ensures.levels in
    let t : Lent _ = record { index = c.unlink.new.self; links = c.remove_at-row.new.self; few = omega (arith, ap length k, (ready s).few); sized = omega (arith, ap length k, ap length v, (ready s).sized) } in
    let q = row_there s _ _ c.requires c.remove_at-row.ensures.row in
    let r : ℕ = c.remove_at-row.result - 1 in
    record {
      taken = record {
        stood = there s c.key_in-key.result c.args.place r q.2 c.key_in-key.ensures;
        keys_stay = k;
        order_left = kept_out s t c.args.place r q.2 k o;
        levels_left = highs_out s t c.args.place r q.2 k o v;
        height_stays = ap (λ (ls : List ℕ). get_or ls 0 0) v;
      };
      chains = λ home leads x. chained_out s t c.args.place r q.2 k o home (λ rows j. c.unlink.ensures.chains home rows (leads r q.2) j) x;
    }
