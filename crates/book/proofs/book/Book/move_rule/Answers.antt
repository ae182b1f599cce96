-- A number that came out always goes in again.
use Rattle.std.proofs.Common.{◌≡◌, true, not, is_some, ap, ◌∙◌, arith}
use Rattle.book.specs.Pages.{key}
use Rattle.book.proofs.Moving.{move_accepted}
use Rattle.book.proofs.book.Book.move_rule.Goals as goal

pub returns-in_err-insert_index : goal.returns-in_err-insert_index
returns-in_err-insert_index g c =
    let mean = g.S.OrderedSet.meaning in
    let some : is_some c.index_of.result ≡ true = c.is_none.ensures ∙ ap not c.if-is_none.false in
    absurd (move_accepted (mean c.args.self.now.set) (mean c.index_of.new.self) (mean c.remove_key.new.self) (mean c.insert_index.new.self)
    (key c.args.number) c.index_of.result c.remove_key.result c.args.place c.index_of.ensures.finds some (omega (arith, c.length.ensures)) c.remove_key.ensures.removes
    _ (g.met.S.OrderedSet.lawful c.index_of.new.self) c.in_err-insert_index.ensures.inserts)
