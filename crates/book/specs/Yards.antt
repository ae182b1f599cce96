-- The meaning of a panel, what join and send answer, and what they leave.
--     board r y p         the meaning of the panel p, over sets with the ghost members r and y
--     OverSet s b c R     R holds of the meanings of the sets b and c
--     Over r y p q R      R holds of the boards of the panels p and q
--     Unmoved r y p q     q is p but for what last places remember
--     opened m n          a panel with no rules yet, over sets that mean m and n; opens r y a b, over the sets a and b
--     Empty s a           the order of the set a is empty
use Rattle.std.specs.Prelude.{◌≡◌, ℕ, ◌≤◌, ◌⊎◌, [], length, Some, None, Ok, Err, Option, Result}
use Rattle.std.specs.List.{insert, remove}
use Rattle.order.specs.Order.{Meaning, ordered, At, Admits, Refuses}
use Rattle.order.specs.declared.fault.SetFault.{SetFault}
use Rattle.order.specs.declared.keys.RuleNumber.{RuleNumber}
use Rattle.order.specs.declared.keys.TrainTag.{TrainTag}
use Rattle.order.specs.declared.set.OrderedSet.{Ghosts}
use Rattle.book.specs.declared.fault.BookFault.{BookFault}
use Rattle.book.specs.declared.fault.BookFault.TheVariants.{BadTurnout, BadTrain, NoTrain, Yard}
use Rattle.book.specs.declared.fault.YardFault.{YardFault}
use Rattle.book.specs.declared.panel.Panel.{Panel}
use Rattle.book.specs.Pages.{Pages, Decides, approach}
use Rattle.book.specs.Rules.{Turnout}
use Rattle.book.specs.Books.{Kept, pages}

pub record Board : Type 0 where
  pub book : Pages
  pub yard : Meaning TrainTag

abbrev pub board : {R Y : Type 0} → Ghosts R RuleNumber → Ghosts Y TrainTag → Panel R Y → Board
board r y p = record { book = pages r p.book; yard = y.meaning p.yard }

abbrev pub OverSet : {S : Type 0} → Ghosts S TrainTag → S → S → (Meaning TrainTag → Meaning TrainTag → Type 0) → Type 0
OverSet s b c R = R (s.meaning b) (s.meaning c)

abbrev pub Over : {R Y : Type 0} → Ghosts R RuleNumber → Ghosts Y TrainTag → Panel R Y → Panel R Y → (Board → Board → Type 0) → Type 0
Over r y p q R = R (board r y p) (board r y q)

abbrev pub Unmoved : {R Y : Type 0} → Ghosts R RuleNumber → Ghosts Y TrainTag → Panel R Y → Panel R Y → Type 0
Unmoved r y p q = Kept r p.book q.book × (y.body q.yard ≡ y.body p.yard)

abbrev pub opened : Meaning RuleNumber → Meaning TrainTag → Board
opened rules yard = record { book = record { numbers = rules; rules = λ (_ : ℕ). None }; yard = yard }

abbrev pub opens : {R Y : Type 0} → Ghosts R RuleNumber → Ghosts Y TrainTag → R → Y → Board
opens r y rules yard = opened (r.meaning rules) (y.meaning yard)

abbrev pub Empty : {S K : Type 0} → Ghosts S K → S → Type 0
Empty s set = (s.meaning set).order ≡ []

-- a push into the yard's set
abbrev pub Pushes : TrainTag → Result ℕ YardFault → Meaning TrainTag → Meaning TrainTag → Type 0
Pushes tag (Ok p) v w = Admits v (length v.order) tag × (p ≡ length v.order) × (w ≡ ordered v (insert v.order (length v.order) tag))
Pushes tag (Err y) v w = Refuses v (length v.order) tag y.fault × (w ≡ v)

-- a join: the train takes the last place
abbrev pub Train : TrainTag → Type 0
Train tag = (65 ≤ tag.class) × (tag.class ≤ 90) × (tag.number ≤ 9999)

abbrev pub JoinFault : TrainTag → BookFault → Meaning TrainTag → Type 0
JoinFault tag f v =
    ((f ≡ BadTrain) × (Train tag → ⊥))
    ⊎ ((e : SetFault) × (f ≡ Yard e) × Train tag × Refuses v (length v.order) tag e)

abbrev pub JoinAnswer : TrainTag → Result ℕ BookFault → Meaning TrainTag → Type 0
JoinAnswer tag (Ok p) v = Train tag × Admits v (length v.order) tag × (p ≡ length v.order)
JoinAnswer tag (Err f) v = JoinFault tag f v

abbrev pub Joins : TrainTag → Result ℕ BookFault → Meaning TrainTag → Meaning TrainTag → Type 0
Joins tag (Ok p) v w = JoinAnswer tag (Ok p) v × (w ≡ ordered v (insert v.order (length v.order) tag))
Joins tag (Err f) v w = JoinAnswer tag (Err f) v × (w ≡ v)

-- a send: the front train is decided for; with a rule it leaves, without one it stays
abbrev pub SendFault : ℕ → BookFault → Meaning TrainTag → Type 0
SendFault turnout f v =
    ((f ≡ BadTurnout) × (Turnout turnout → ⊥))
    ⊎ ((f ≡ NoTrain) × Turnout turnout × (v.order ≡ []))

abbrev pub Departs : ℕ → Option (TrainTag × ℕ × ℕ) → Board → Type 0
Departs turnout (Some d) v = At v.yard.order 0 d.0 × Decides v.book (approach turnout d.0.class) (Some (d.1, d.2))
Departs turnout None v = (tag : TrainTag) × At v.yard.order 0 tag × Decides v.book (approach turnout tag.class) None

abbrev pub SendAnswer : ℕ → Result (Option (TrainTag × ℕ × ℕ)) BookFault → Board → Type 0
SendAnswer turnout (Ok d) v = Turnout turnout × Departs turnout d v
SendAnswer turnout (Err f) v = SendFault turnout f v.yard

abbrev pub departed : Result (Option (TrainTag × ℕ × ℕ)) BookFault → Meaning TrainTag → Meaning TrainTag
departed (Ok (Some d)) v = ordered v (remove v.order 0)
departed (Ok None) v = v
departed (Err f) v = v

abbrev pub Sends : ℕ → Result (Option (TrainTag × ℕ × ℕ)) BookFault → Board → Board → Type 0
Sends turnout r v w = SendAnswer turnout r v × (w.book ≡ v.book) × (w.yard ≡ departed r v.yard)
