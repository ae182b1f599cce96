-- Deeds: the accepted calls that changed an order. A list of them has the latest first.
--
--   put i k d, out i    the key k came in at place i with the draw d; the key at place i was taken out
--   order_after ds      the order that the deeds ds built, from an empty one
--   after_put, ..       the deeds after a call that answered r
--   Next                the same of an insertion directly after a key
use Rattle.std.specs.Prelude.{ℕ, ◌+◌, List, [], ◌∷◌, Some, None, Ok, Err, Option, Result}
use Rattle.std.specs.List.{insert, remove}
use Rattle.order.specs.declared.fault.SetFault.{SetFault}
use Rattle.order.specs.Order.{At}

pub data Deed (A : Type 0) : Type 0 where
  put : ℕ → A → ℕ → Deed A
  out : ℕ → Deed A

abbrev pub order_after : {A : Type 0} → List (Deed A) → List A
order_after [] = []
order_after (put i k d ∷ ds) = insert (order_after ds) i k
order_after (out i ∷ ds) = remove (order_after ds) i

abbrev pub after_put : {A : Type 0} → Result Unit SetFault → Deed A → List (Deed A) → List (Deed A)
after_put (Ok _) d ds = d ∷ ds
after_put (Err _) d ds = ds

abbrev pub after_key : {A : Type 0} → Option ℕ → List (Deed A) → List (Deed A)
after_key (Some i) ds = out i ∷ ds
after_key None ds = ds

abbrev pub after_at : {A : Type 0} → Option A → ℕ → List (Deed A) → List (Deed A)
after_at (Some _) i ds = out i ∷ ds
after_at None i ds = ds

-- what is told of deeds, after an insertion directly after p
abbrev pub Next : {A B : Type 0} → (List (Deed A) → B → Type 0) → Result Unit SetFault → A → A → ℕ → List (Deed A) → B → Type 0
Next told (Ok _) p k d ds t = (i : ℕ) × At (order_after ds) i p × told (put (i + 1) k d ∷ ds) t
Next told (Err _) p k d ds t = told ds t
