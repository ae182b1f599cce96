-- Why `worked_cases` keeps its contract.
use Rattle.std.proofs.Common.{refl, arith}
use Rattle.worked.proofs.Deciding as deciding
use Rattle.worked.proofs.Following as following
use Rattle.worked.proofs.Inserting as inserting
use Rattle.worked.proofs.Moving as moving
use Rattle.worked.proofs.Splicing as splicing
use Rattle.worked.proofs.worked_cases.Goals as goal

pub returns : goal.returns
returns g c = record {
  levels = (refl, refl, refl, refl, refl, refl);
  links = λ x y z. record { new_head = refl; new_height = refl; to_b = refl; from_b = refl; without_b = refl; height_stays = refl };
  sets = record {
    at_end = λ v x two room absent. inserting.last v 2 x two room absent;
    past_end = λ v x two absent. (inserting.past v 3 x absent (omega arith), refl);
    spliced = λ v a b c x y is apart room. splicing.spliced a b c x y apart v is room;
    present = λ v i x full stands. (inserting.present v i x stands, refl);
    present_after = λ v p x full stands. following.present_after v p x stands;
    full = λ v i x full absent within. (inserting.no_room v i x absent within (omega arith), refl);
    full_after = λ v p x full absent stands. following.full_after v p x absent stands (omega arith);
  };
  books = record {
    moved = λ v n i apart two low at. moving.moved_last v n i 1 low at apart (omega arith);
    moved_past = λ v n two low stands. (moving.moved_past v n stands.0 2 low stands.1 (omega arith), refl);
    decided = deciding.decided;
  };
}
