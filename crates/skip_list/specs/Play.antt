-- What a call with its answer adds to the deeds that built a list, and what a script of calls does.
use Rattle.std.specs.Prelude.{◌≡◌, ℕ, ◌+◌, false, List, [], ◌∷◌, is_some, is_ok, Some, Ok, Err, Option, Result}
use Rattle.order.specs.declared.fault.SetFault.{SetFault}
use Rattle.order.specs.Order.{At, Found, Given, InsertsAfter, InsertsAt, RemovesAt, RemovesKey}
use Rattle.skip_list.specs.declared.call.Answer.{Answer}
use Rattle.skip_list.specs.declared.call.Answer.TheVariants.{Key, Place, Put, Spliced}
use Rattle.skip_list.specs.declared.call.Call.{Call}
use Rattle.skip_list.specs.declared.call.Call.TheVariants.{IndexOf, InsertAfter, InsertHead, InsertIndex, KeyOf, RemoveIndex, RemoveKey, Splice}
use Rattle.skip_list.specs.declared.call.Turn.{Turn}
use Rattle.skip_list.specs.declared.lent.Lent.{Lent}
use Rattle.order.specs.Deeds.{Deed, after_at, after_key, after_put, order_after, put}
use Rattle.layers.specs.Splice.{SpliceAdds, meant}
use Rattle.skip_list.specs.History.{Told}
use Rattle.skip_list.specs.Lent.{size}

-- the deeds after an insertion directly after p
abbrev pub PutAfter : {A : Type 0} → Result Unit SetFault → A → A → ℕ → List (Deed A) → List (Deed A) → Type 0
PutAfter (Ok _) p k d ds es = (i : ℕ) × At (order_after ds) i p × (es ≡ put (i + 1) k d ∷ ds)
PutAfter (Err _) p k d ds es = es ≡ ds

-- a call on a list of n rows that the deeds ds built answers a, and the deeds are then es: those of a refused call stay
abbrev pub Adds : {A : Type 0} → ℕ → List (Deed A) → Call A → Answer A → List (Deed A) → Type 0
Adds n ds (InsertHead k d) a es = (r : Result Unit SetFault) × (a ≡ Put r) × InsertsAt (meant n ds) 0 k r (meant n es) × (es ≡ after_put r (put 0 k d) ds)
Adds n ds (InsertAfter p k d) a es = (r : Result Unit SetFault) × (a ≡ Put r) × InsertsAfter (meant n ds) p k r (meant n es) × PutAfter r p k d ds es
Adds n ds (InsertIndex i k d) a es = (r : Result Unit SetFault) × (a ≡ Put r) × InsertsAt (meant n ds) i k r (meant n es) × (es ≡ after_put r (put i k d) ds)
Adds n ds (Splice i ks draws) a es = (r : Result ℕ SetFault) × (a ≡ Spliced r) × SpliceAdds n ds i ks.now draws.now r es
Adds n ds (RemoveKey k) a es = (r : Option ℕ) × (a ≡ Place r) × RemovesKey (meant n ds) k r (meant n es) × (es ≡ after_key r ds)
Adds {A} n ds (RemoveIndex i) a es = (r : Option A) × (a ≡ Key r) × RemovesAt (meant n ds) i r (meant n es) × (es ≡ after_at r i ds)
Adds n ds (IndexOf k) a es = (r : Option ℕ) × (a ≡ Place r) × Found (order_after ds) k r × (es ≡ ds)
Adds {A} n ds (KeyOf i) a es = (r : Option A) × (a ≡ Key r) × Given (order_after ds) i r × (es ≡ ds)

-- a script of calls with their answers takes the deeds ds to es
abbrev pub Plays : {A : Type 0} → ℕ → List (Deed A) → List (Turn A) → List (Deed A) → Type 0
Plays n ds [] es = es ≡ ds
Plays {A} n ds (t ∷ ts) es = (a : Answer A) × (fs : List (Deed A)) × (t.answer ≡ Some a) × Adds n ds t.call a fs × Plays n fs ts es

abbrev pub called : {A : Type 0} → Turn A → Call A
called t = t.call

-- an answer that turns a call down, or finds nothing
abbrev pub Refused : {A : Type 0} → Answer A → Type 0
Refused (Put r) = is_ok r ≡ false
Refused (Spliced r) = is_ok r ≡ false
Refused (Place r) = is_some r ≡ false
Refused (Key r) = is_some r ≡ false

-- a list that the deeds ds built is, after the call, one that the deeds and the call built
pub record Carries {A : Type 0} (ds : List (Deed A)) (s : Lent A) (c : Call A) (a : Answer A) (t : Lent A) : Type 0 where
  pub after : List (Deed A)
  pub adds : Adds (size s) ds c a after
  pub told : Told after t
  pub room : size t ≡ size s
  pub unmoved : Refused a → t ≡ s

-- the same of a turn, which then has its answer
abbrev pub Answered : {A : Type 0} → List (Deed A) → Lent A → Turn A → Lent A → Type 0
Answered {A} ds s t u = (a : Answer A) × (t.answer ≡ Some a) × Carries ds s t.call a u

-- the same of a script of calls
pub record Runs {A : Type 0} (ds : List (Deed A)) (s : Lent A) (ts : List (Turn A)) (t : Lent A) : Type 0 where
  pub after : List (Deed A)
  pub plays : Plays (size s) ds ts after
  pub told : Told after t
  pub room : size t ≡ size s

-- A script on a new list: its accepted calls did these deeds, each answer is the one due, and the list that is left obeys the law of the deeds.
pub record Played {A : Type 0} (ts : List (Turn A)) (t : Lent A) : Type 0 where
  pub deeds : List (Deed A)
  pub plays : Plays (size t) [] ts deeds
  pub told : Told deeds t
