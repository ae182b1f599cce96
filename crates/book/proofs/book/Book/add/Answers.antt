-- The number went in, and its record was written.
use Rattle.std.proofs.Common.{Some, refl, arith}
use Rattle.book.proofs.Places.{recorded_set}
use Rattle.book.proofs.book.Book.add.Goals as goal

pub returns-clause-adds : goal.returns-clause-adds
returns-clause-adds g c =
    let written = recorded_set c.args.self.now.rules c.args.number (Some c.args.rule) (omega arith) in
    let into = c.in_ok-insert_index.ensures.inserts in
    ((omega arith, into.0, refl), cc)
