-- The number came out, and its record with it.
use Rattle.std.proofs.Common.{None, arith}
use Rattle.book.specs.Pages.{key}
use Rattle.book.proofs.Moving.{removed_at}
use Rattle.book.proofs.Places.{recorded_set}
use Rattle.book.proofs.book.Book.drop_rule.Goals as goal

pub returns-clause-drops : goal.returns-clause-drops
returns-clause-drops g c =
    let written = recorded_set c.args.self.now.rules c.args.number None (omega arith) in
    let out = removed_at _ (key c.args.number) _ _ _ c.in_ok-place.ensures.ok_part c.remove_key.ensures.removes in
    ((omega arith, out.0), cc)
