-- What the calls of a book answer, and the pages that they leave. A refusal is one of its (fault, condition) pairs, in
-- their sequence: each condition says that those before it do not hold.
--     pages s b           the meaning of the book b over a set with the ghost members s
--     Across s b c R      R holds of the pages of b and c
--     Kept s b c          c is b but for what a last place remembers
use Rattle.std.specs.Prelude.{◌≡◌, ℕ, ◌<◌, ◌≤◌, ◌⊎◌, List, length, Some, None, Ok, Err, Option, Result}
use Rattle.std.specs.List.{insert, remove}
use Rattle.order.specs.Order.{At, Absent, Stands, Admits, Refuses}
use Rattle.order.specs.declared.fault.SetFault.{SetFault}
use Rattle.order.specs.declared.fault.SetFault.TheVariants.{PastEnd}
use Rattle.order.specs.declared.keys.RuleNumber.{RuleNumber}
use Rattle.order.specs.declared.set.OrderedSet.{Ghosts}
use Rattle.book.specs.declared.approach.Approach.{Approach}
use Rattle.book.specs.declared.book.Book.{Book}
use Rattle.book.specs.declared.fault.BookFault.{BookFault}
use Rattle.book.specs.declared.fault.BookFault.TheVariants.{BadNumber, NoRule, BadTurnout, BadTrain, Rules}
use Rattle.book.specs.declared.rule.Rule.{Rule}
use Rattle.book.specs.Rules.{Letter, Turnout}
use Rattle.book.specs.Pages.{Pages, Decides, key, listing, recorded, reordered, rewritten}

abbrev pub pages : {S : Type 0} → Ghosts S RuleNumber → Book S → Pages
pages s b = record { numbers = s.meaning b.set; rules = recorded b.rules }

abbrev pub Across : {S : Type 0} → Ghosts S RuleNumber → Book S → Book S → (Pages → Pages → Type 0) → Type 0
Across s b c R = R (pages s b) (pages s c)

abbrev pub Kept : {S : Type 0} → Ghosts S RuleNumber → Book S → Book S → Type 0
Kept s b c = (s.body c.set ≡ s.body b.set) × (c.rules ≡ b.rules)

-- a decision: its answer, and the pages stay
abbrev pub DecideFault : Approach → BookFault → Type 0
DecideFault a f =
    ((f ≡ BadTurnout) × (Turnout a.turnout → ⊥))
    ⊎ ((f ≡ BadTrain) × Turnout a.turnout × (Letter a.class → ⊥))

abbrev pub DecideAnswer : Approach → Result (Option (ℕ × ℕ)) BookFault → Pages → Type 0
DecideAnswer a (Ok d) v = Turnout a.turnout × Letter a.class × Decides v a d
DecideAnswer a (Err f) v = DecideFault a f

abbrev pub Answers : Approach → Result (Option (ℕ × ℕ)) BookFault → Pages → Pages → Type 0
Answers a r v w = DecideAnswer a r v × (w ≡ v)

-- an add: its answer, and the pages w that it leaves
abbrev pub AddFault : ℕ → ℕ → BookFault → Pages → Type 0
AddFault n place f v =
    ((f ≡ BadNumber) × (255 < n))
    ⊎ ((e : SetFault) × (f ≡ Rules e) × (n ≤ 255) × Refuses v.numbers place (key n) e)

abbrev pub AddAnswer : ℕ → ℕ → Result ℕ BookFault → Pages → Type 0
AddAnswer n place (Ok p) v = (n ≤ 255) × Admits v.numbers place (key n) × (p ≡ place)
AddAnswer n place (Err f) v = AddFault n place f v

abbrev pub added : ℕ → Rule → ℕ → Pages → Pages
added n rule place v = rewritten (reordered v (insert v.numbers.order place (key n))) n (Some rule)

abbrev pub Adds : ℕ → Rule → ℕ → Result ℕ BookFault → Pages → Pages → Type 0
Adds n rule place (Ok p) v w = AddAnswer n place (Ok p) v × (w ≡ added n rule place v)
Adds n rule place (Err f) v w = AddAnswer n place (Err f) v × (w ≡ v)

-- a drop
abbrev pub DropFault : ℕ → BookFault → Pages → Type 0
DropFault n f v =
    ((f ≡ BadNumber) × (255 < n))
    ⊎ ((f ≡ NoRule) × (n ≤ 255) × Absent v.numbers.order (key n))

abbrev pub DropAnswer : ℕ → Result ℕ BookFault → Pages → Type 0
DropAnswer n (Ok p) v = (n ≤ 255) × At v.numbers.order p (key n)
DropAnswer n (Err f) v = DropFault n f v

abbrev pub Drops : ℕ → Result ℕ BookFault → Pages → Pages → Type 0
Drops n (Ok p) v w = DropAnswer n (Ok p) v × (w ≡ rewritten (reordered v (remove v.numbers.order p)) n None)
Drops n (Err f) v w = DropAnswer n (Err f) v × (w ≡ v)

-- a move: out of its old place i, and in at the given place of what remains
abbrev pub MoveFault : ℕ → ℕ → BookFault → Pages → Type 0
MoveFault n place f v =
    ((f ≡ BadNumber) × (255 < n))
    ⊎ (((f ≡ NoRule) × (n ≤ 255) × Absent v.numbers.order (key n))
    ⊎ ((f ≡ Rules PastEnd) × (n ≤ 255) × Stands v.numbers.order (key n) × (length v.numbers.order ≤ place)))

abbrev pub MoveAnswer : ℕ → ℕ → Result ℕ BookFault → Pages → Type 0
MoveAnswer n place (Ok p) v = (n ≤ 255) × Stands v.numbers.order (key n) × (place < length v.numbers.order) × (p ≡ place)
MoveAnswer n place (Err f) v = MoveFault n place f v

abbrev pub Moves : ℕ → ℕ → Result ℕ BookFault → Pages → Pages → Type 0
Moves n place (Ok p) v w =
    MoveAnswer n place (Ok p) v
    × ((i : ℕ) × At v.numbers.order i (key n) × (w ≡ reordered v (insert (remove v.numbers.order i) place (key n))))
Moves n place (Err f) v w = MoveAnswer n place (Err f) v × (w ≡ v)

-- a listing: the numbers that have a rule, at most 256, and the pages stay
pub record Lists (listed : List ℕ) (v w : Pages) : Type 0 where
  pub lists : listed ≡ listing v
  pub most : length listed ≤ 256
  pub same : w ≡ v
