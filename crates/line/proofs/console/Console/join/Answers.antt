-- A join is a call.
use Rattle.std.proofs.Common.{sym, refl, ap, ◌∙◌}
use Rattle.book.specs.Books.{pages}
use Rattle.book.specs.Calls.{Carries}
use Rattle.book.specs.declared.book.Book.{Book}
use Rattle.book.specs.declared.call.Call.TheVariants.{Join}
use Rattle.line.specs.Grammar.{joining}
use Rattle.line.proofs.Acting.{done_placed}
use Rattle.line.proofs.console.Console.join.Goals as goal

pub returns : goal.returns
unfolding Carries
returns g c =
    done_placed g.R.OrderedSet g.Y.OrderedSet _ _ (joining c.args.tag) (c.next-draw.ensures.state ∙ c.next-draw.ensures.draw)
    (Join c.args.tag c.next-draw.result) c.join.result c.map.result c.map.ensures.cases
    (λ i. Join c.args.tag (sym c.next-draw.ensures.state i))
    (c.join.result, refl, c.join.ensures.joins, ap (pages g.R.OrderedSet) c.join.ensures.book)
    (λ no. ((ap (λ (b : Book g.row.R.Denot). g.R.OrderedSet.body b.set) c.join.ensures.book, ap (λ (b : Book g.row.R.Denot). b.rules) c.join.ensures.book), c.join.ensures.kept no))
