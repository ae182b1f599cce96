-- Each place is passed or decides, in order.
use Rattle.std.proofs.Common.{◌≡◌, length, Some, None, sym, refl, ap, ◌∙◌, subst, arith}
use Rattle.order.specs.Order.{Meaning, At}
use Rattle.order.specs.declared.keys.RuleNumber.{RuleNumber}
use Rattle.book.specs.Books.{pages}
use Rattle.book.specs.Pages.{recorded}
use Rattle.book.proofs.Deciding.{none_more, unmatched_none, unmatched_rule}
use Rattle.book.proofs.book.Book.first_match.Goals as goal
use Rattle.book.proofs.book.Book.first_match.Goals.{in-Some+in-Some-rule_of+else-matches, in-Some+in_default-rule_of, in_default}

pub returns-then-matches-clause-decides : goal.returns-then-matches-clause-decides
returns-then-matches-clause-decides g c =
    let past = c.loop-place.invariant in
    let has : recorded c.args.self.now.rules c.in-Some.number.value ≡ Some c.in-Some-rule_of.rule = cc in
    let here = subst (λ (v : Meaning RuleNumber). At v.order c.loop-place.place c.in-Some.number) past.same c.in-Some.ensures.gives.0 in
    (c.loop-place.place, c.in-Some-rule_of.rule, here, has, c.if-matches.ensures.yes refl, sym c.route.ensures, past.none)

pub loop-place-preserved : goal.loop-place-preserved
loop-place-preserved g c =
    let past = c.loop-place.invariant in
    let p = c.loop-place.place in
    let now = pages g.S.OrderedSet c.args.self.now in
    let here : (n : RuleNumber) → At (g.S.OrderedSet.meaning c.loop-place.self.set).order p n → At now.numbers.order p n =
    λ n. subst (λ (u : Meaning RuleNumber). At u.order p n) past.same in
    let len = ap (λ (u : Meaning RuleNumber). length u.order) past.same in
    record {
      body = c.key_of.ensures.kept ∙ past.body;
      rules = past.rules;
      same = c.key_of.ensures.gives.1 ∙ past.same;
      none = elim c.match-key_of.branch [
        | in-Some+in-Some-rule_of+else-matches w ↦
            let has : now.rules w.in-Some.number.value ≡ Some w.in-Some-rule_of.rule = cc in
            none_more now _ p w.in-Some.number past.none (here _ w.in-Some.ensures.gives.0)
            (unmatched_rule now _ _ _ _ has w.matches.ensures.no w.if-matches.false)
        | in-Some+in_default-rule_of w ↦
            let has : now.rules w.in-Some.number.value ≡ None = cc in
            none_more now _ p w.in-Some.number past.none (here _ w.in-Some.ensures.gives.0) (unmatched_none now _ _ has)
        | in_default w ↦ absurd (omega (arith, w.in_default.ensures.gives.0, c.length-place-end.ensures))
      ];
    }
