-- The worked case: rule 9 for turnout 12, classes E and F, route 7, and behind it rule 4 for turnouts 10 to 14, classes F
-- and G, route 3, in any empty book with room for both.
use Rattle.std.specs.Prelude.{◌≡◌, ◌≤◌, [], ◌∷◌, ℕ, Some, Ok, Err, codes, Result}
use Rattle.order.specs.declared.fault.SetFault.TheVariants.{PastEnd}
use Rattle.book.specs.declared.fault.BookFault.{BookFault}
use Rattle.book.specs.declared.fault.BookFault.TheVariants.{Rules}
use Rattle.book.specs.declared.rule.Rule.{Rule}
use Rattle.book.specs.Faults.{fault_number}
use Rattle.book.specs.Rules.{Makes}
use Rattle.book.specs.Pages.{Pages, key}

abbrev pub Vacant : Pages → Type 0
Vacant v = (v.numbers.order ≡ []) × (2 ≤ v.numbers.room)

abbrev pub Nine : Rule → Type 0
Nine rule = Makes 12 12 (codes "EF") 7 (Ok rule)

abbrev pub Four : Rule → Type 0
Four rule = Makes 10 14 (codes "FG") 3 (Ok rule)

abbrev pub Both : Result (Rule × Rule) BookFault → Type 0
Both (Ok p) = Nine p.0 × Four p.1
Both (Err f) = ⊥

-- 9 stands before 4, each with its rule
pub record NineThenFour (v : Pages) : Type 0 where
  pub in_order : v.numbers.order ≡ key 9 ∷ key 4 ∷ []
  pub nine : Rule
  pub nine_is : Nine nine
  pub has_nine : v.rules 9 ≡ Some nine
  pub four : Rule
  pub four_is : Four four
  pub has_four : v.rules 4 ≡ Some four

abbrev pub Builds : Result (Unit {0}) BookFault → Pages → Pages → Type 0
Builds (Ok u) v w = Vacant v → NineThenFour w
Builds (Err f) v w = Vacant v → ⊥

-- a move to place 1 is accepted, and one to place 2 is refused under number 3
abbrev pub MovesOnce : Result (ℕ × Result ℕ BookFault) BookFault → Type 0
MovesOnce r = (r ≡ Ok (1, Err (Rules PastEnd))) × (fault_number (Rules PastEnd) ≡ 3)
