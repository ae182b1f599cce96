-- An insertion after a key on a full set: a present key is refused as present, an absent one as too many.
use Rattle.std.proofs.Common.{◌≡◌, ◌≤◌, length, Ok, Err, Result, refl, arith}
use Rattle.order.specs.Order.{Meaning, Absent, Stands, InsertsAfter}
use Rattle.order.specs.declared.fault.SetFault.{SetFault}
use Rattle.order.specs.declared.fault.SetFault.TheVariants.{Present, NoPredecessor, PastEnd, Full, Uneven}
use Rattle.worked.specs.Cases.{Only}

module _ {K : Type 0} (v : Meaning K) (p x : K) where
  pub present_after : Stands v.order x → Only (InsertsAfter v p x) (Err Present) v
  present_after (j, at) = (((j, at), refl), once)
    where
      once : (r : Result Unit SetFault) (w : Meaning K) → InsertsAfter v p x r w → (r ≡ Err Present) × (w ≡ v)
      once (Ok _) w (_, _, ((absent, _, _), _)) = absurd (absent j at)
      once (Err Present) w (_, left) = (refl, left)
      once (Err NoPredecessor) w ((absent, _), _) = absurd (absent j at)
      once (Err PastEnd) w (b, _) = absurd b
      once (Err Full) w ((_, _, (absent, _, _)), _) = absurd (absent j at)
      once (Err Uneven) w (b, _) = absurd b

  pub full_after : Absent v.order x → Stands v.order p → v.room ≤ length v.order → Only (InsertsAfter v p x) (Err Full) v
  full_after absent (j, at) full = (((j, at, (absent, omega (arith, at.0), full)), refl), once)
    where
      once : (r : Result Unit SetFault) (w : Meaning K) → InsertsAfter v p x r w → (r ≡ Err Full) × (w ≡ v)
      once (Ok _) w (_, _, ((_, _, room), _)) = absurd (omega arith)
      once (Err Present) w ((i, here), _) = absurd (absent i here)
      once (Err NoPredecessor) w ((_, gone), _) = absurd (gone j at)
      once (Err PastEnd) w (b, _) = absurd b
      once (Err Full) w (_, left) = (refl, left)
      once (Err Uneven) w (b, _) = absurd b
