-- Which places below one more are passed, and that an approach is decided in one way only.
use Rattle.std.proofs.Common.{◌≡◌, ℕ, ◌+◌, ◌≤◌, Bool, true, false, Some, None, Option, sym, refl, ap, ◌∙◌, subst, ⊎_elim, arith}
use Rattle.order.specs.Order.{At}
use Rattle.order.specs.declared.keys.RuleNumber.{RuleNumber}
use Rattle.book.specs.declared.approach.Approach.{Approach}
use Rattle.book.specs.declared.rule.Rule.{Rule}
use Rattle.book.specs.Rules.{Covers}
use Rattle.book.specs.Pages.{Decides, Matches, NoneBelow, Pages, key}
use Rattle.book.proofs.Places.{at_same, below_or_at, below_or_past}

-- the place p is passed when the key there does not match
pub none_more : (v : Pages) (a : Approach) (p : ℕ) (n : RuleNumber)
    → NoneBelow v a p → At v.numbers.order p n → (Matches v a n.value → ⊥) → NoneBelow v a (p + 1)
none_more v a p n below here unmatched i k lt at m =
    ⊎_elim (λ l. below i k l at m)
    (λ e. let q = at_same v.numbers.order p k n (subst (λ (j : ℕ). At v.numbers.order j k) e at) here in
    unmatched (subst (λ (x : RuleNumber). Matches v a x.value) q m))
    (below_or_at i p lt)

-- a number does not match when its rule does not cover, or when it has none
pub unmatched_rule : (v : Pages) (a : Approach) (n : ℕ) (rule : Rule) (b : Bool)
    → v.rules n ≡ Some rule → (Covers rule a → b ≡ true) → b ≡ false → Matches v a n → ⊥
unmatched_rule v a n rule b has covers left (other, is, m) =
    let e : other ≡ rule = cc in
    let m' = subst (λ (x : Rule). Covers x a) e m in
    let y = covers m' in
    let z : ◌≡◌ {A = ℕ} 0 1 = cc in omega arith

pub unmatched_none : (v : Pages) (a : Approach) (n : ℕ) → v.rules n ≡ None → Matches v a n → ⊥
unmatched_none v a n has (other, is, m) = let z : ◌≡◌ {A = ℕ} 0 1 = cc in omega arith

-- an approach is decided in one way only
module _ (v : Pages) (a : Approach) where
  not_below : (p q : ℕ) (n : ℕ) → At v.numbers.order p (key n) → Matches v a n → NoneBelow v a q → q ≤ p
  not_below p q n at m none = ⊎_elim (λ lt. absurd (none p (key n) lt at m)) (λ le. le) (below_or_past p q)

  pub decides_once : (d e : Option (ℕ × ℕ)) → Decides v a d → Decides v a e → d ≡ e
  decides_once (Some (n, r)) (Some (m, s)) (p, rule, at, has, covers, route, none) (q, rule', at', has', covers', route', none') =
      let le = not_below p q n at (rule, has, covers) none' in
      let ge = not_below q p m at' (rule', has', covers') none in
      let same : p ≡ q = omega arith in
      let k = at_same v.numbers.order q (key n) (key m) (subst (λ (i : ℕ). At v.numbers.order i (key n)) same at) at' in
      let number : n ≡ m = ap (λ (x : RuleNumber). x.value) k in
      let found : Some rule ≡ Some rule' = sym has ∙ ap v.rules number ∙ has' in
      let one-rule : rule ≡ rule' = cc in
      let routes : r ≡ s = sym route ∙ ap (λ (x : Rule). x.route) one-rule ∙ route' in
      cc
  decides_once (Some d) None (p, rule, at, has, covers, route, none) none' = absurd (none' p (key d.0) at.0 at (rule, has, covers))
  decides_once None (Some e) none (q, rule, at, has, covers, route, none') = absurd (none q (key e.0) at.0 at (rule, has, covers))
  decides_once None None none none' = refl
