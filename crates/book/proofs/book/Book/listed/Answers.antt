-- Each place is passed, and its number listed where it has a rule: there is always room for it.
use Rattle.std.proofs.Common.{◌≡◌, length, true, false, is_some, ap, ◌∙◌, subst, arith}
use Rattle.std.proofs.lemmas.List.{take_all}
use Rattle.order.specs.Order.{At, Meaning}
use Rattle.order.specs.declared.keys.RuleNumber.{RuleNumber}
use Rattle.book.specs.Pages.{recorded, ruled}
use Rattle.book.proofs.Listing.{list_past, list_room, list_ruled, recorded_most}
use Rattle.book.proofs.Places.{same_pages}
use Rattle.book.proofs.book.Book.listed.Goals as goal
use Rattle.book.proofs.book.Book.listed.Goals.{in-Some+then-is_some, in-Some+else-is_some, in_default}

pub push-requires : goal.push-requires
push-requires g c =
    let past = c.loop-place.invariant in
    let now = c.args.self.now in
    let here = subst (λ (v : Meaning RuleNumber). At v.order c.loop-place.place c.in-Some.number) past.same c.in-Some.ensures.gives.0 in
    let has : is_some (recorded now.rules c.in-Some.number.value) ≡ true = cc in
    (omega arith, list_room _ _ _ c.loop-place.place _ here past.lists (g.met.S.OrderedSet.lawful now.set).apart now.whole has)

pub loop-place-preserved : goal.loop-place-preserved
loop-place-preserved g c =
    let past = c.loop-place.invariant in
    let p = c.loop-place.place in
    let now = c.args.self.now in
    let order = (g.S.OrderedSet.meaning now.set).order in
    let here : (n : RuleNumber) → At (g.S.OrderedSet.meaning c.loop-place.self.set).order p n → At order p n =
    λ n. subst (λ (u : Meaning RuleNumber). At u.order p n) past.same in
    let len = ap (λ (u : Meaning RuleNumber). length u.order) past.same in
    record {
      body = c.key_of.ensures.kept ∙ past.body;
      rules = past.rules;
      same = c.key_of.ensures.gives.1 ∙ past.same;
      lists = elim c.match-key_of.branch [
        | in-Some+then-is_some w ↦
            let has : is_some (recorded now.rules w.in-Some.number.value) ≡ true = cc in
            ap (λ v. v.items) w.numbers-is ∙ w.push.ensures.items ∙ list_ruled now.rules order c.loop-place.numbers.items p w.in-Some.number (here _ w.in-Some.ensures.gives.0) past.lists has
        | in-Some+else-is_some w ↦
            let has : is_some (recorded now.rules w.in-Some.number.value) ≡ false = cc in
            ap (λ v. v.items) w.numbers-is ∙ list_past now.rules order c.loop-place.numbers.items p w.in-Some.number (here _ w.in-Some.ensures.gives.0) past.lists has
        | in_default w ↦ absurd (omega (arith, w.in_default.ensures.gives.0, c.length-place-end.ensures))
      ];
    }

pub returns-clause-lists : goal.returns-clause-lists
returns-clause-lists g c =
    let past = c.loop-place.invariant in
    let now = c.args.self.now in
    let order = (g.S.OrderedSet.meaning now.set).order in
    let all = past.lists ∙ ap (ruled (recorded now.rules)) (take_all c.loop-place.place order (omega (arith, c.length-place-end.ensures))) in
    let most = recorded_most now.rules order (g.met.S.OrderedSet.lawful now.set).apart in
    let size = now.whole in
    record { lists = all; most = omega (arith, ap length all); same = same_pages past.same past.rules }
