-- A splice into different keys leaves one order, and x b y into a b c leaves x a b y c.
use Rattle.std.proofs.Common.{◌≡◌, ℕ, zero, suc, ◌+◌, ◌≤◌, List, [], ◌∷◌, length, Some, None, Ok, Err, Option, Result, sym, refl, ap, ◌∙◌, subst, inl, inr, arith}
use Rattle.std.specs.List.{insert}
use Rattle.std.proofs.lemmas.List.Edits.{length-insert}
use Rattle.order.specs.Order.{Meaning, ordered, Absent, Distinct}
use Rattle.order.specs.declared.fault.SetFault.{SetFault}
use Rattle.order.specs.declared.fault.SetFault.TheVariants.{Present, NoPredecessor, PastEnd, Full, Uneven}
use Rattle.order.proofs.Places.{apart_inserted, apart_removed}
use Rattle.layers.specs.Splice.{Follows, Spliced, Splices}
use Rattle.worked.specs.Cases.{Only}

module _ {K : Type 0} (place : ℕ) where
  -- the next key has one place, within the order
  follows_once : (xs : List K) (before : Option K) (i j : ℕ) → Distinct xs → Follows xs place before i → Follows xs place before j → i ≡ j
  follows_once xs None i j apart p q = p ∙ sym q
  follows_once xs (Some k) i j apart (m, at, p) (n, at', q) = let e = apart m n k at at' in omega arith

  follows_within : (xs : List K) (before : Option K) (i : ℕ) → place ≤ length xs → Follows xs place before i → i ≤ length xs
  follows_within xs None i le p = omega arith
  follows_within xs (Some k) i le (m, (lt, _), p) = omega arith

  spliced_once : (ks xs : List K) (before : Option K) (ys zs : List K) (n m : ℕ) → Distinct xs → place ≤ length xs
      → Spliced place xs before ks ys n → Spliced place xs before ks zs m → (ys ≡ zs) × (n ≡ m)
  spliced_once [] xs before ys zs n m apart le (p, q) (p', q') = (p ∙ sym p', q ∙ sym q')
  spliced_once (k ∷ ks) xs before ys zs n m apart le (inl (_, s)) (inl (_, t)) = spliced_once ks xs (Some k) ys zs n m apart le s t
  spliced_once (k ∷ ks) xs before ys zs n m apart le (inl ((j, at), _)) (inr (absent, _)) = absurd (absent j at)
  spliced_once (k ∷ ks) xs before ys zs n m apart le (inr (absent, _)) (inl ((j, at), _)) = absurd (absent j at)
  spliced_once (k ∷ ks) xs before ys zs n m apart le (inr (absent, (i, f, (a, p, s)))) (inr (_, (j, g, (b, q, t)))) =
      let e = follows_once xs before j i apart g f in
      let within = follows_within xs before i le f in
      let len = length-insert xs i k within in
      let t' = subst (λ (l : ℕ). Spliced place (insert xs l k) (Some k) ks zs b) e t in
      let same = spliced_once ks (insert xs i k) (Some k) ys zs a b (apart_inserted xs i k within absent apart) (omega arith) s t' in
      (same.0, omega (arith, same.1))

  -- a splice that is accepted is the only answer
  only_spliced : (v : Meaning K) (ks ys : List K) (n : ℕ) → Distinct v.order → place ≤ length v.order → length v.order + length ks ≤ v.room
      → Spliced place v.order None ks ys n → Only (Splices v place ks (length ks)) (Ok n) (ordered v ys)
  only_spliced v ks ys n apart le room splice = ((refl, le, room, (ys, splice, refl)), once)
    where
      once : (r : Result ℕ SetFault) (w : Meaning K) → Splices v place ks (length ks) r w → (r ≡ Ok n) × (w ≡ ordered v ys)
      once (Ok m) w (_, _, _, (zs, other, left)) =
          let same = spliced_once ks v.order None zs ys m n apart le other splice in
          (ap (λ (k : ℕ). Ok k) same.1, left ∙ ap (λ (xs : List K). ordered v xs) same.0)
      once (Err Uneven) w (uneven, _) = absurd (uneven refl)
      once (Err PastEnd) w ((_, past), _) = absurd (omega arith)
      once (Err Full) w ((_, _, full), _) = absurd (omega arith)
      once (Err Present) w (b, _) = absurd b
      once (Err NoPredecessor) w (b, _) = absurd b

module _ {K : Type 0} (a b c x y : K) (apart : Distinct (x ∷ a ∷ b ∷ y ∷ c ∷ [])) where
  x_absent : Absent (a ∷ b ∷ c ∷ []) x
  x_absent zero (lt, is) = let e = apart 0 1 x (omega arith, refl) (omega arith, is) in omega arith
  x_absent (suc zero) (lt, is) = let e = apart 0 2 x (omega arith, refl) (omega arith, is) in omega arith
  x_absent (suc (suc zero)) (lt, is) = let e = apart 0 4 x (omega arith, refl) (omega arith, is) in omega arith
  x_absent (suc (suc (suc i))) (lt, is) = omega arith

  y_absent : Absent (x ∷ a ∷ b ∷ c ∷ []) y
  y_absent zero (lt, is) = let e = apart 3 0 y (omega arith, refl) (omega arith, is) in omega arith
  y_absent (suc zero) (lt, is) = let e = apart 3 1 y (omega arith, refl) (omega arith, is) in omega arith
  y_absent (suc (suc zero)) (lt, is) = let e = apart 3 2 y (omega arith, refl) (omega arith, is) in omega arith
  y_absent (suc (suc (suc zero))) (lt, is) = let e = apart 3 4 y (omega arith, refl) (omega arith, is) in omega arith
  y_absent (suc (suc (suc (suc i)))) (lt, is) = omega arith

  -- x goes in at 0, b stands, and y goes in after b
  x_b_y : Spliced 0 (a ∷ b ∷ c ∷ []) None (x ∷ b ∷ y ∷ []) (x ∷ a ∷ b ∷ y ∷ c ∷ []) 2
  x_b_y = inr (x_absent, (0, refl, (1, refl, inl ((2, (omega arith, refl)), inr (y_absent, (3, (2, (omega arith, refl), refl), (0, refl, (refl, refl))))))))

  a_b_c : Distinct (a ∷ b ∷ c ∷ [])
  a_b_c = apart_removed (a ∷ b ∷ y ∷ c ∷ []) 2 (omega arith) (apart_removed (x ∷ a ∷ b ∷ y ∷ c ∷ []) 0 (omega arith) apart)

  pub spliced : (v : Meaning K) → v.order ≡ a ∷ b ∷ c ∷ [] → 6 ≤ v.room
      → Only (Splices v 0 (x ∷ b ∷ y ∷ []) 3) (Ok 2) (ordered v (x ∷ a ∷ b ∷ y ∷ c ∷ []))
  spliced v is room =
      let len = ap length is in
      let splice = subst (λ (xs : List K). Spliced 0 xs None (x ∷ b ∷ y ∷ []) (x ∷ a ∷ b ∷ y ∷ c ∷ []) 2) (sym is) x_b_y in
      only_spliced 0 v (x ∷ b ∷ y ∷ []) (x ∷ a ∷ b ∷ y ∷ c ∷ []) 2 (subst Distinct (sym is) a_b_c) (omega arith) (omega arith) splice
