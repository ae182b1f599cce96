-- What waits for the next splice, keys or draws.
use Rattle.std.specs.Prelude.{◌≡◌, ◌<◌, ◌≤◌, List, [], ◌∷◌, ◌++◌, length, Ok, Err, Result}
use Rattle.order.specs.declared.fault.SetFault.TheVariants.{Full}
use Rattle.host.specs.declared.refusal.Refusal.{Refusal}
use Rattle.host.specs.declared.refusal.Refusal.TheVariants.{Set}
use Rattle.host.specs.declared.reply.Reply.{Reply}
use Rattle.host.specs.declared.reply.Reply.TheVariants.{Done}

-- one more of some that wait: 256 are the most, and one past them is refused as full
abbrev pub Holds : {A : Type 0} → List A → A → Result Reply Refusal → List A → Type 0
Holds xs x (Ok r) ys = (length xs < 256) × (r ≡ Done) × (ys ≡ xs ++ x ∷ [])
Holds xs x (Err e) ys = (256 ≤ length xs) × (e ≡ Set Full) × (ys ≡ xs)
