-- No number at a place passed matches.
use Rattle.std.proofs.Common.{◌≡◌}
use Rattle.book.specs.Books.{pages}
use Rattle.book.specs.Pages.{NoneBelow}
use Rattle.book.proofs.book.Book.first_match.Given as goal

abbrev pub invariant-loop-place : goal.invariant-loop-place
invariant-loop-place g l = record {
  body : g.S.OrderedSet.body l.self.set ≡ g.S.OrderedSet.body l.initial.self.set;
  rules : l.self.rules ≡ l.initial.self.rules;
  same : g.S.OrderedSet.meaning l.self.set ≡ g.S.OrderedSet.meaning l.initial.self.set;
  none : NoneBelow (pages g.S.OrderedSet l.initial.self) l.asked l.place;
}
