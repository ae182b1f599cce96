-- The worked case: nothing turns the two rules down, and what they decide.
use Rattle.std.proofs.Common.{◌≡◌, ℕ, ◌<◌, List, [], ◌∷◌, length, Some, Ok, Err, Option, Result, sym, refl, ap, ◌∙◌, subst, ⊎_elim, arith}
use Rattle.std.proofs.lemmas.List.Edits.{get_or-insert_at, length-insert, length-remove}
use Rattle.std.specs.List.{insert, remove}
use Rattle.order.specs.Order.{At}
use Rattle.order.specs.declared.fault.SetFault.TheVariants.{PastEnd}
use Rattle.order.specs.declared.keys.RuleNumber.{RuleNumber}
use Rattle.book.specs.declared.fault.BookFault.{BookFault}
use Rattle.book.specs.declared.fault.BookFault.TheVariants.{Rules}
use Rattle.book.specs.declared.rule.Rule.{Rule}
use Rattle.book.specs.Books.{Adds, Answers, Moves}
use Rattle.book.specs.Pages.{Decides, Pages, approach, key}
use Rattle.book.specs.Worked.{Four, MovesOnce, Nine, NineThenFour, Vacant}
use Rattle.book.proofs.Deciding.{decides_once}

module _ (v v1 : Pages) (nine : Rule) (vacant : Vacant v) where
  module _ (p : ℕ) (first : Adds 9 nine 0 (Ok p) v v1) where
    one : v1.numbers.order ≡ key 9 ∷ []
    one = ap (λ (u : Pages). u.numbers.order) first.1 ∙ ap (λ (xs : List RuleNumber). insert xs 0 (key 9)) vacant.0

    pub both_in : (four : Rule) (v2 : Pages) (q : ℕ) → Adds 4 four 1 (Ok q) v1 v2 → Nine nine → Four four → NineThenFour v2
    both_in four v2 q second is-nine is-four = record {
      in_order = ap (λ (u : Pages). u.numbers.order) second.1 ∙ ap (λ (xs : List RuleNumber). insert xs 1 (key 4)) one;
      nine = nine;
      nine_is = is-nine;
      has_nine = ap (λ (u : Pages). u.rules 9) second.1 ∙ ap (λ (u : Pages). u.rules 9) first.1;
      four = four;
      four_is = is-four;
      has_four = ap (λ (u : Pages). u.rules 4) second.1;
    }

-- with 9 before 4, turnout 12 and class F are decided by 9 and 7
pub nine_decides : (v : Pages) → NineThenFour v → Decides v (approach 12 70) (Some (9, 7))
nine_decides v two =
    let made = two.nine_is in
    let at : At v.numbers.order 0 (key 9) = subst (λ (xs : List RuleNumber). At xs 0 (key 9)) (sym two.in_order) (omega arith, refl) in
    (0, two.nine, at, two.has_nine, (omega arith, omega arith, omega arith, (made.4.1 1 70 (omega arith, refl)).1.1), made.3, λ i k lt. absurd (omega arith))

pub case_decided : (v w : Pages) (r : Result (Option (ℕ × ℕ)) BookFault) → NineThenFour v → Answers (approach 12 70) r v w → r ≡ Ok (Some (9, 7))
case_decided v w (Ok d) two ((_, _, decides), _) = ap (λ (x : Option (ℕ × ℕ)). Ok x) (decides_once v (approach 12 70) d (Some (9, 7)) decides (nine_decides v two))
case_decided v w (Err f) two (fault, _) = absurd (⊎_elim (λ t. t.1 (omega arith, omega arith)) (λ t. t.2 (omega arith, omega arith)) fault)

-- a key moved stands at its new place, in an order of the same length
length_moved : (xs : List RuleNumber) (i place : ℕ) (k : RuleNumber) → i < length xs → place < length xs → length (insert (remove xs i) place k) ≡ length xs
length_moved xs i place k lt within =
    let out = length-remove xs i lt in
    let into = length-insert (remove xs i) place k (omega arith) in
    omega arith

moved_at : (xs : List RuleNumber) (i place : ℕ) (k : RuleNumber) → i < length xs → place < length xs → At (insert (remove xs i) place k) place k
moved_at xs i place k lt within =
    let out = length-remove xs i lt in
    let len = length_moved xs i place k lt within in
    (omega arith, get_or-insert_at (remove xs i) place k k (omega arith))

-- of two rules 9 moved to place 1, and a move to place 2 is past the end
pub case_refused : (v w x : Pages) (p : ℕ) (r : Result ℕ BookFault) → NineThenFour v → Moves 9 1 (Ok p) v w → Moves 9 2 r w x → MovesOnce (Ok (p, r))
case_refused v w x p (Ok q) two (answer, (i, at, left)) (past, _) =
    let len = ap length two.in_order in
    let all = ap (λ (u : Pages). length u.numbers.order) left ∙ length_moved v.numbers.order i 1 (key 9) at.0 answer.2 in
    absurd (omega (arith, past.2))
case_refused v w x p (Err f) two (answer, (i, at, left)) (fault, _) =
    let len = ap length two.in_order in
    let all = ap (λ (u : Pages). length u.numbers.order) left ∙ length_moved v.numbers.order i 1 (key 9) at.0 answer.2 in
    let past : f ≡ Rules PastEnd =
    ⊎_elim (λ high. absurd (omega (arith, high.1)))
    (⊎_elim (λ gone. absurd (gone.2 1 (subst (λ (u : Pages). At u.numbers.order 1 (key 9)) (sym left) (moved_at v.numbers.order i 1 (key 9) at.0 answer.2))))
    (λ past. past.0)) fault in
    let first = answer.3 in
    (cc, refl)
