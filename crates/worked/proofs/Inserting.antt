-- An insertion at a place has one answer and leaves one meaning: the accepted one, and the three refused.
use Rattle.std.proofs.Common.{◌≡◌, ℕ, ◌<◌, ◌≤◌, List, [], ◌∷◌, ◌++◌, length, Ok, Err, Result, refl, ap, subst, arith}
use Rattle.std.specs.List.{insert}
use Rattle.order.specs.Order.{Meaning, ordered, Absent, Stands, Admits, Refuses, InsertsAt}
use Rattle.order.specs.declared.fault.SetFault.{SetFault}
use Rattle.order.specs.declared.fault.SetFault.TheVariants.{Present, NoPredecessor, PastEnd, Full, Uneven}
use Rattle.book.proofs.Moving.{none_refuses, put_last}
use Rattle.worked.specs.Cases.{Only}

module _ {K : Type 0} (v : Meaning K) (i : ℕ) (x : K) where
  -- where x may go in, it goes in
  goes_in : Admits v i x → Only (InsertsAt v i x) (Ok tt) (ordered v (insert v.order i x))
  goes_in admits = ((admits, refl), once)
    where
      once : (r : Result Unit SetFault) (w : Meaning K) → InsertsAt v i x r w → (r ≡ Ok tt) × (w ≡ ordered v (insert v.order i x))
      once (Ok _) w (_, left) = (refl, left)
      once (Err e) w (refuses, _) = absurd (none_refuses v i x e admits refuses)

  -- where e is the only reason against x, e is answered
  turned_down : (e : SetFault) → Refuses v i x e → ((f : SetFault) → Refuses v i x f → f ≡ e) → Only (InsertsAt v i x) (Err e) v
  turned_down e refuses only = ((refuses, refl), once)
    where
      once : (r : Result Unit SetFault) (w : Meaning K) → InsertsAt v i x r w → (r ≡ Err e) × (w ≡ v)
      once (Ok _) w (admits, _) = absurd (none_refuses v i x e admits refuses)
      once (Err f) w (other, left) = (ap (λ (g : SetFault). Err g) (only f other), left)

  pub last : length v.order ≡ i → i < v.room → Absent v.order x → Only (InsertsAt v i x) (Ok tt) (ordered v (v.order ++ x ∷ []))
  last len room absent =
      let behind : insert v.order i x ≡ v.order ++ x ∷ [] = subst (λ (n : ℕ). insert v.order n x ≡ v.order ++ x ∷ []) len (put_last v.order x) in
      subst (λ (ys : List K). Only (InsertsAt v i x) (Ok tt) (ordered v ys)) behind (goes_in (absent, omega arith, omega arith))

  pub present : Stands v.order x → Only (InsertsAt v i x) (Err Present) v
  present (j, at) = turned_down Present (j, at) only
    where
      only : (f : SetFault) → Refuses v i x f → f ≡ Present
      only Present _ = refl
      only NoPredecessor b = absurd b
      only PastEnd (absent, _) = absurd (absent j at)
      only Full (absent, _, _) = absurd (absent j at)
      only Uneven b = absurd b

  pub past : Absent v.order x → length v.order < i → Only (InsertsAt v i x) (Err PastEnd) v
  past absent beyond = turned_down PastEnd (absent, beyond) only
    where
      only : (f : SetFault) → Refuses v i x f → f ≡ PastEnd
      only Present (j, at) = absurd (absent j at)
      only NoPredecessor b = absurd b
      only PastEnd _ = refl
      only Full (_, within, _) = absurd (omega arith)
      only Uneven b = absurd b

  pub no_room : Absent v.order x → i ≤ length v.order → v.room ≤ length v.order → Only (InsertsAt v i x) (Err Full) v
  no_room absent within full = turned_down Full (absent, within, full) only
    where
      only : (f : SetFault) → Refuses v i x f → f ≡ Full
      only Present (j, at) = absurd (absent j at)
      only NoPredecessor b = absurd b
      only PastEnd (_, beyond) = absurd (omega arith)
      only Full _ = refl
      only Uneven b = absurd b
