-- Why `play` keeps its contract.
use Rattle.std.proofs.Common.{ℕ, [], length, sym, subst}
use Rattle.skip_list.specs.Memory.{Usable}
use Rattle.skip_list.specs.Play.{Plays}
use Rattle.skip_list.proofs.play.play.Goals as goal

pub returns : goal.returns
returns g c =
    let r = c.run.ensures.told [] c.new-list.ensures.told in
    record {
      room = subst (λ (n : ℕ). Usable (length c.args.keys.now) (length c.args.rows.now) (length c.args.slots.now) n) (sym r.room) c.new-list.ensures.room;
      called = c.run.ensures.called;
      law = record {
        deeds = r.after;
        plays = subst (λ (n : ℕ). Plays n [] c.run.new.turns r.after) (sym r.room) r.plays;
        told = r.told;
      };
    }
