-- Each call does what its name says, and leaves the other set.
use Rattle.std.proofs.Common.{◌≡◌, Result, sym, ap, subst, rules}
use Rattle.book.specs.declared.call.Answer.{Answer}
use Rattle.book.specs.declared.call.Call.{Call}
use Rattle.book.specs.declared.fault.BookFault.{BookFault}
use Rattle.book.specs.Books.{pages}
use Rattle.book.specs.Calls.{Carries, decided, placed, sent}
use Rattle.book.specs.Yards.{Board}
use Rattle.book.proofs.panel.Panel.carry.Goals as goal

-- a call under its own name
as_call : (v w : Board) (call call' : Call) (a : Result Answer BookFault) → call ≡ call' → Carries call' a v w → Carries call a v w
as_call v w call call' a e carried = subst (λ (x : Call). Carries x a v w) (sym e) carried

pub returns-in-Add-clause-answers : goal.returns-in-Add-clause-answers
unfolding Carries
returns-in-Add-clause-answers g c =
    let is : c.map.result ≡ placed c.add.result = search rules in
    as_call _ _ c.args.call _ _ c.in-Add.is (c.add.result, is, c.add.ensures.adds, ap g.Y.OrderedSet.meaning c.add.ensures.yard)

pub returns-in-Drop-clause-answers : goal.returns-in-Drop-clause-answers
unfolding Carries
returns-in-Drop-clause-answers g c =
    let is : c.map-in-Drop.result ≡ placed c.drop_rule.result = search rules in
    as_call _ _ c.args.call _ _ c.in-Drop.is (c.drop_rule.result, is, c.drop_rule.ensures.drops, ap g.Y.OrderedSet.meaning c.drop_rule.ensures.yard)

pub returns-in-Move-clause-answers : goal.returns-in-Move-clause-answers
unfolding Carries
returns-in-Move-clause-answers g c =
    let is : c.map-in-Move.result ≡ placed c.move_rule.result = search rules in
    as_call _ _ c.args.call _ _ c.in-Move.is (c.move_rule.result, is, c.move_rule.ensures.moves, ap g.Y.OrderedSet.meaning c.move_rule.ensures.yard)

pub returns-in-Join-clause-answers : goal.returns-in-Join-clause-answers
unfolding Carries
returns-in-Join-clause-answers g c =
    let is : c.map-in-Join.result ≡ placed c.join.result = search rules in
    as_call _ _ c.args.call _ _ c.in-Join.is (c.join.result, is, c.join.ensures.joins, ap (pages g.R.OrderedSet) c.join.ensures.book)

pub returns-in-Send-clause-answers : goal.returns-in-Send-clause-answers
unfolding Carries
returns-in-Send-clause-answers g c =
    let is : c.map-in-Send.result ≡ sent c.send.result = search rules in
    as_call _ _ c.args.call _ _ c.in-Send.is (c.send.result, is, c.send.ensures.sends)

pub returns-in-Decide-clause-answers : goal.returns-in-Decide-clause-answers
unfolding Carries
returns-in-Decide-clause-answers g c =
    let is : c.map-in-Decide.result ≡ decided c.decide.result = search rules in
    as_call _ _ c.args.call _ _ c.in-Decide.is (c.decide.result, is, c.decide.ensures.decides, ap g.Y.OrderedSet.meaning c.decide.ensures.yard)
