-- What a lawful rule is, and which approaches it covers.
--     Turnout t                 t is the number of a turnout
--     Letter c                  c is a letter from A to Z
--     Holds set c               a set of letters has the class c
--     ClassSet classes set      the set of the letters listed, or none where another byte is listed
--     Fit first last cs route   a lawful rule is made of these
--     Covers rule a             the rule matches the approach a
use Rattle.std.specs.Prelude.{◌≡◌, ℕ, ◌-◌, ◌<◌, ◌≤◌, Bool, true, false, List, length, Some, None, Ok, Err, Option, Result, slice_index_or}
use Rattle.order.specs.Order.{At, Stands}
use Rattle.book.specs.declared.approach.Approach.{Approach}
use Rattle.book.specs.declared.fault.BookFault.{BookFault}
use Rattle.book.specs.declared.fault.BookFault.TheVariants.{BadRule}
use Rattle.book.specs.declared.rule.Rule.{Rule}

abbrev pub Turnout : ℕ → Type 0
Turnout turnout = (1 ≤ turnout) × (turnout ≤ 2000)

abbrev pub Letter : ℕ → Type 0
Letter class = (65 ≤ class) × (class ≤ 90)

abbrev pub Holds : List Bool → ℕ → Type 0
Holds set class = (65 ≤ class) × (slice_index_or set (class - 65) false ≡ true)

abbrev pub ClassSet : List ℕ → Option (List Bool) → Type 0
ClassSet classes (Some set) =
    (length set ≡ 26)
    × ((i c : ℕ) → At classes i c → Letter c × Holds set c)
    × ((c : ℕ) → Holds set c → Stands classes c)
ClassSet classes None = ((i c : ℕ) → At classes i c → Letter c) → ⊥

abbrev pub Fit : ℕ → ℕ → List ℕ → ℕ → Type 0
Fit first last classes route =
    (1 ≤ first) × (first ≤ last) × (last ≤ 2000) × (0 < length classes) × ((i c : ℕ) → At classes i c → Letter c) × (1 ≤ route) × (route ≤ 255)

-- the rule made has what was given; another than a lawful one is refused
abbrev pub Makes : ℕ → ℕ → List ℕ → ℕ → Result Rule BookFault → Type 0
Makes first last classes route (Ok rule) =
    Fit first last classes route × (rule.first ≡ first) × (rule.last ≡ last) × (rule.route ≡ route) × ClassSet classes (Some rule.classes)
Makes first last classes route (Err f) = (f ≡ BadRule) × (Fit first last classes route → ⊥)

-- a turnout within the rule's ends, for a class in its set
abbrev pub Covers : Rule → Approach → Type 0
Covers rule a = (rule.first ≤ a.turnout) × (a.turnout ≤ rule.last) × (65 ≤ a.class) × (slice_index_or rule.classes (a.class - 65) false ≡ true)
