-- The meaning of a book: numbers in order, and each one's rule; which of them decides, and which are listed.
--     Matches v a n       the number n has a rule, and it covers the approach a
--     NoneBelow v a p     no number at a place below p matches
--     Decides v a d       the matching rule of lowest place, with its number and route; none exactly when none matches
--     listing v           the numbers that have a rule, in order
use Rattle.std.specs.Prelude.{◌≡◌, ℕ, ◌<◌, cond, List, [], ◌∷◌, length, is_some, Some, None, Option, ◌==◌, slice_index_or}
use Rattle.order.specs.Order.{Meaning, ordered, At}
use Rattle.order.specs.declared.keys.RuleNumber.{RuleNumber}
use Rattle.book.specs.declared.approach.Approach.{Approach}
use Rattle.book.specs.declared.rule.Rule.{Rule}
use Rattle.book.specs.Rules.{Covers}

pub record Pages : Type 0 where
  pub numbers : Meaning RuleNumber
  pub rules : ℕ → Option Rule

-- the key of a rule number, and the approach of a class to a turnout
abbrev pub key : ℕ → RuleNumber
key n = record { value = n }

abbrev pub approach : ℕ → ℕ → Approach
approach turnout class = record { turnout = turnout; class = class }

abbrev pub Matches : Pages → Approach → ℕ → Type 0
Matches v a n = (rule : Rule) × (v.rules n ≡ Some rule) × Covers rule a

abbrev pub NoneBelow : Pages → Approach → ℕ → Type 0
NoneBelow v a p = (i : ℕ) (k : RuleNumber) → i < p → At v.numbers.order i k → Matches v a k.value → ⊥

abbrev pub Decides : Pages → Approach → Option (ℕ × ℕ) → Type 0
Decides v a (Some d) =
    (p : ℕ) × (rule : Rule)
    × At v.numbers.order p (key d.0) × (v.rules d.0 ≡ Some rule) × Covers rule a × (rule.route ≡ d.1)
    × NoneBelow v a p
Decides v a None = NoneBelow v a (length v.numbers.order)

-- the numbers of an order that a table has a rule for
abbrev pub ruled : (ℕ → Option Rule) → List RuleNumber → List ℕ
ruled rules [] = []
ruled rules (k ∷ ks) = cond (is_some (rules k.value)) (k.value ∷ ruled rules ks) (ruled rules ks)

abbrev pub listing : Pages → List ℕ
listing v = ruled v.rules v.numbers.order

-- the table that a list of records is: a number past its end has no rule
abbrev pub recorded : List (Option Rule) → ℕ → Option Rule
recorded records n = slice_index_or records n None

-- pages with another order, and with one number's rule written anew
abbrev pub reordered : Pages → List RuleNumber → Pages
reordered v xs = record { numbers = ordered v.numbers xs; rules = v.rules }

abbrev pub with_rule : ℕ → Option Rule → (ℕ → Option Rule) → ℕ → Option Rule
with_rule n entry rules k = cond (k == n) entry (rules k)

abbrev pub rewritten : Pages → ℕ → Option Rule → Pages
rewritten v n entry = record { numbers = v.numbers; rules = with_rule n entry v.rules }
