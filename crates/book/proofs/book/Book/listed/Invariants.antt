-- The numbers of the places passed that have a rule are listed.
use Rattle.std.proofs.Common.{◌≡◌, take}
use Rattle.book.specs.Pages.{recorded, ruled}
use Rattle.book.proofs.book.Book.listed.Given as goal

abbrev pub invariant-loop-place : goal.invariant-loop-place
invariant-loop-place g l = record {
  body : g.S.OrderedSet.body l.self.set ≡ g.S.OrderedSet.body l.initial.self.set;
  rules : l.self.rules ≡ l.initial.self.rules;
  same : g.S.OrderedSet.meaning l.self.set ≡ g.S.OrderedSet.meaning l.initial.self.set;
  lists : l.numbers.items ≡ ruled (recorded l.initial.self.rules) (take l.place (g.S.OrderedSet.meaning l.initial.self.set).order);
}
