-- What a lookup found, in a list whose chains are those of the keys' hashes.
use Rattle.std.proofs.Common.{◌≡◌, ℕ, zero, suc, ◌+◌, ◌*◌, ◌<◌, ◌≤◌, Bool, true, false, List, [], ◌∷◌, length, get_or, set, is_some, Some, None, Ok, Err, Option, Result, sym, refl, ap, ◌∙◌, subst, ⊎_elim, arith}
use mathlib.Core.Logic.{∥∥₁_elim, ∥∥₁_map}
use native.Mathlib.Bridge.{le_prop}
use native.Mathlib.Nat.{ℕ_set}
use Rattle.std.specs.List.{insert, remove}
use Rattle.std.proofs.lemmas.Bool.{true≢false}
use Rattle.order.specs.declared.fault.SetFault.{SetFault}
use Rattle.order.specs.declared.fault.SetFault.TheVariants.{Present, NoPredecessor, PastEnd, Full, Uneven}
use Rattle.order.specs.Order.{Meaning, ordered, At, Absent, Stands, Distinct, InsertsAt, InsertsAfter}
use Rattle.order.proofs.Places.{apart_inserted, apart_removed}
use Rattle.std.proofs.lemmas.List.{get_or_default}
use Rattle.index.specs.Index.{Row, Used, homes, spot, tally}
use Rattle.index.proofs.Chains.{held_at, home_new, home_old}
use Rattle.index.proofs.Cut.{room_left, room_none, free_unused}
use Rattle.skip_list.specs.declared.lent.Lent.{Lent}
use Rattle.skip_list.specs.Lent.{picked, keys_of, means, size, used, kept, Chained, Enters, Sound}
use Rattle.skip_list.specs.Tower.{Taken}
use Rattle.skip_list.specs.Memory.{Usable}
use Rattle.skip_list.proofs.Picks.{kept_at, row_at, stands, stands_some}
use Rattle.skip_list.proofs.Readies.{rows_below, row_low, length_used}

-- a sound list has chains
pub chained : {A : Type 0} (identity : A → List ℕ) (hashed : List ℕ → ℕ) (s : Lent A) → Sound s identity hashed → ∥ ((home : ℕ → ℕ) × Chained s home (used s)) ∥₁
chained identity hashed s x = ∥∥₁_map x.0 (λ u. (homes identity hashed (keys_of s), u))

module _ {A : Type 0} (s : Lent A) (c : ∥ ((home : ℕ → ℕ) × Chained s home (used s)) ∥₁) where
  -- a row that was found is in use
  pub found_used : (b r : ℕ) → ((home : ℕ → ℕ) (rows : List ℕ) → Chained s home rows → Used home b rows (Some r)) → 0 < tally r (used s)
  found_used b r f = ∥∥₁_elim c le_prop (λ u. (f u.0 (used s) u.1).0)

  pub row_free : s.index.free < size s → (length (used s) < size s) × (tally s.index.free (used s) ≡ 0)
  row_free low = (
    ∥∥₁_elim c le_prop (λ u. room_left u.0 _ _ _ _ u.1 low),
    ∥∥₁_elim c (ℕ_set _ _) (λ u. free_unused u.0 _ _ _ _ u.1 low),
  )

  pub none_free : size s ≤ s.index.free → length (used s) ≡ size s
  none_free high = ∥∥₁_elim c (ℕ_set _ _) (λ u. room_none u.0 _ _ _ _ u.1 high)

  pub within : length (used s) ≤ size s
  within = ∥∥₁_elim c le_prop (λ u. omega (arith, u.1.full))

  pub entering : (i v : ℕ) → i ≤ s.links.len → s.index.free < size s → 0 < v → v ≤ 16 → Enters s i v
  entering i v le low vl vh =
      let f = row_free low in
      record { place = le; room = omega (arith, f.0, length_used s); free_low = low; unused = f.1; level_low = vl; level_high = vh }

-- what is meant once a key was taken out
pub means_taken : {A : Type 0} (s t : Lent A) (i : ℕ) (k : A) → Taken s i k t → means t ≡ ordered (means s) (remove (kept s) i)
means_taken {A} s t i k w = ap (λ (xs : List A). record { order = xs; room = size t }) w.order_left ∙ ap (λ (ks : List A). record { order = remove (kept s) i; room = length ks }) w.keys_stay

-- the key of a row stands at the place of the row
pub there : {A : Type 0} (s : Lent A) (key : A) (i r : ℕ) → At (used s) i r → get_or (keys_of s) r key ≡ key → At (kept s) i key
there s key i r a e = kept_at (keys_of s) (used s) i r key (rows_below s) a e

-- keys of one identity are one key
pub whole_of : {A : Type 0} (identity : A → List ℕ) (eq : A → A → Bool) → ((a b : A) → (eq a b ≡ true → a ≡ b) × (identity a ≡ identity b → eq a b ≡ true)) → (a b : A) → identity a ≡ identity b → a ≡ b
whole_of identity eq same a b e = (same a b).0 ((same a b).1 e)

module _ {A : Type 0} (identity : A → List ℕ) (hashed : List ℕ → ℕ) (whole : (a b : A) → identity a ≡ identity b → a ≡ b) (s : Lent A) where
  pub found_at : (key : A) (r i : ℕ) → Row identity (keys_of s) (used s) key (Some r) → At (used s) i r → At (kept s) i key
  found_at key r i f a = kept_at (keys_of s) (used s) i r key (rows_below s) a (whole _ _ (sym (held_at identity (keys_of s) r key (row_low s i r a)) ∙ f.1))

  pub none_at : (key : A) → Row identity (keys_of s) (used s) key None → Absent (kept s) key
  none_at key f i a =
      let q = row_at (keys_of s) (used s) i key (rows_below s) a in
      let r : ℕ = get_or (used s) i 0 in
      let there : At (used s) i r = (q.0, get_or_own (used s) i) in
      f r (stands_some r (used s) i there) (held_at identity (keys_of s) r key (row_low s i r there) ∙ ap identity q.1)
    where
      get_or_own : (xs : List ℕ) (i : ℕ) → get_or xs i (get_or xs i 0) ≡ get_or xs i 0
      get_or_own [] i = refl
      get_or_own (x ∷ xs) zero = refl
      get_or_own (x ∷ xs) (suc i) = get_or_own xs i

  -- the home of the row at a place is that of the key there
  pub home_there : (key : A) (i : ℕ) → At (kept s) i key → (r : ℕ) → At (used s) i r → homes identity hashed (keys_of s) r ≡ spot hashed (size s) (identity key)
  home_there key i k r a =
      let q = row_at (keys_of s) (used s) i key (rows_below s) k in
      let e : get_or (used s) i 0 ≡ r = get_or_default (used s) i 0 r a.0 ∙ a.1 in
      ap (λ (id : List ℕ). spot hashed (size s) id) (held_at identity (keys_of s) r key (row_low s i r a) ∙ ap identity (ap (λ (x : ℕ). get_or (keys_of s) x key) (sym e) ∙ q.1))

  -- the list stays sound when the key at a place is taken out
  pub sound_taken : (t : Lent A) (i : ℕ) (k : A) → Taken s i k t
      → ((home : ℕ → ℕ) → ((r : ℕ) → At (used s) i r → home r ≡ spot hashed (size s) (identity k)) → Chained s home (used s) → Chained t home (used t))
      → Sound s identity hashed → Sound t identity hashed
  sound_taken t i k w chains x = (
    ∥∥₁_map x.0 (λ u. subst (λ (ks : List A). Chained t (homes identity hashed ks) (used t)) (sym w.keys_stay) (chains (homes identity hashed (keys_of s)) (home_there k i w.stood) u)),
    subst Distinct (sym w.order_left) (apart_removed (kept s) i w.stood.0 x.1),
  )

  -- what the two cases of a lookup say
  pub some_found : (key : A) (o : Option ℕ) → is_some o ≡ true → Row identity (keys_of s) (used s) key o → Stands (kept s) key
  some_found key None e f = absurd (true≢false (sym e))
  some_found key (Some r) e f = let i = stands r (used s) f.0 in (i.0, found_at key r i.0 f i.1)

  pub none_found : (key : A) (o : Option ℕ) → is_some o ≡ false → Row identity (keys_of s) (used s) key o → Absent (kept s) key
  none_found key None e f = none_at key f
  none_found key (Some r) e f = absurd (true≢false e)

  -- the list stays sound when a key comes in, and when one leaves
  pub sound_put : (t : Lent A) (i : ℕ) (k : A) → s.index.free < size s → keys_of t ≡ set (keys_of s) s.index.free k → kept t ≡ insert (kept s) i k →
      ((home after : ℕ → ℕ) → after s.index.free ≡ spot hashed (size s) (identity k) → ((q : ℕ) → (q ≡ s.index.free → ⊥) → after q ≡ home q) → Chained s home (used s) → Chained t after (used t)) →
      i ≤ length (kept s) → Absent (kept s) k → Sound s identity hashed → Sound t identity hashed
  sound_put t i k low keys put chains le out x =
      let to : (q : ℕ) → homes identity hashed (keys_of t) q ≡ homes identity hashed (set (keys_of s) s.index.free k) q = λ q. ap (λ (ks : List A). homes identity hashed ks q) keys in (
        ∥∥₁_map x.0 (chains (homes identity hashed (keys_of s)) (homes identity hashed (keys_of t))
            (to s.index.free ∙ home_new identity hashed (keys_of s) s.index.free k low)
            (λ q ne. to q ∙ home_old identity hashed (keys_of s) s.index.free k q ne)),
        subst Distinct (sym put) (apart_inserted (kept s) i k le out x.1),
      )

  pub sound_out : (t : Lent A) (i r : ℕ) (k : A) → keys_of t ≡ keys_of s → kept t ≡ remove (kept s) i →
      ((home : ℕ → ℕ) → home r ≡ spot hashed (size s) (identity k) → Chained s home (used s) → Chained t home (used t)) →
      i < length (kept s) → Row identity (keys_of s) (used s) k (Some r) → Sound s identity hashed → Sound t identity hashed
  sound_out t i r k keys out chains lt f x = (
    ∥∥₁_map x.0 (λ u. subst (λ (ks : List A). Chained t (homes identity hashed ks) (used t)) (sym keys)
        (chains (homes identity hashed (keys_of s)) (ap (λ (id : List ℕ). spot hashed (size s) id) f.1) u)),
    subst Distinct (sym out) (apart_removed (kept s) i lt x.1),
  )

-- an insertion at the place after a key is one after the key
pub after_at_lem : {A : Type 0} (v w : Meaning A) (p x : A) (i : ℕ) (r : Result Unit SetFault) → At v.order i p → InsertsAt v (i + 1) x r w → InsertsAfter v p x r w
after_at_lem v w p x i (Ok u) a t = (i, a, t)
after_at_lem v w p x i (Err Present) a t = t
after_at_lem v w p x i (Err NoPredecessor) a t = absurd t.0
after_at_lem v w p x i (Err PastEnd) a t = absurd (omega (arith, t.0.1, a.0))
after_at_lem v w p x i (Err Full) a t = ((i, a, t.0), t.1)
after_at_lem v w p x i (Err Uneven) a t = absurd t.0

pub apart_none : {A : Type 0} (xs : List A) → xs ≡ [] → Distinct xs
apart_none xs e i j x a b = absurd (omega (arith, ap length e, a.0))

-- a list with no row in use
module _ {A : Type 0} (s : Lent A) (none : used s ≡ []) where
  pub emptied : (home : ℕ → ℕ) → ((home : ℕ → ℕ) → Chained s home []) → (home : ℕ → ℕ) × Chained s home (used s)
  emptied home free = (home, subst (λ (rows : List ℕ). Chained s home rows) (sym none) (free home))

module _ {A : Type 0} (identity : A → List ℕ) (hashed : List ℕ → ℕ) (s : Lent A) (none : used s ≡ []) where
  pub sound_none : ((home : ℕ → ℕ) → Chained s home []) → Sound s identity hashed
  unfolding emptied
  sound_none free = (
    ∣ (emptied s none (homes identity hashed (keys_of s)) free).1 ∣₁,
    apart_none (kept s) (ap (λ (rows : List ℕ). picked (keys_of s) rows) none),
  )

pub usable_fits : (keys rows slots n : ℕ) → Usable keys rows slots n → (n ≤ 4096) × ((n ≤ keys) × ((n ≤ rows) × (2 * n ≤ slots)))
usable_fits keys rows slots n e = ⊎_elim
    (λ q. (q.1.1, (omega (arith, q.0), (omega (arith, q.0), omega (arith, q.1.2)))))
    (λ q. (omega (arith, q.0), (omega (arith, q.0), (omega (arith, q.0), omega (arith, q.0)))))
    e
