-- Calls on a list that a history built, and scripts of them.
use Rattle.std.proofs.Common.{◌≡◌, ℕ, zero, suc, ◌+◌, ◌<◌, false, List, [], ◌∷◌, ◌++◌, map, length, get_or, take, set, is_some, is_ok, Some, None, Ok, Err, Option, Result, sym, refl, ap, ◌∙◌, subst}
use Rattle.std.proofs.lemmas.List.{take_more_set}
use Rattle.order.specs.declared.fault.SetFault.{SetFault}
use Rattle.order.specs.Order.{Found, Given, InsertsAfter, InsertsAt, Meaning, RemovesAt, RemovesKey}
use Rattle.skip_list.specs.declared.call.Answer.TheVariants.{Key, Place, Put, Spliced}
use Rattle.skip_list.specs.declared.call.Call.{Call}
use Rattle.skip_list.specs.declared.call.Call.TheVariants.{IndexOf, InsertAfter, InsertHead, InsertIndex, KeyOf, RemoveIndex, RemoveKey, Splice}
use Rattle.skip_list.specs.declared.call.Turn.{Turn}
use Rattle.skip_list.specs.declared.lent.Lent.{Lent}
use Rattle.order.specs.Deeds.{Deed, Next, after_at, after_key, after_put, put}
use Rattle.layers.specs.Splice.{Splices, SplicesTold, meant}
use Rattle.skip_list.specs.History.{Told}
use Rattle.skip_list.specs.Lent.{kept, means, size}
use Rattle.skip_list.specs.declared.call.Answer.{Answer}
use Rattle.std.specs.Borrow.{Bor}
use Rattle.skip_list.specs.Play.{Adds, Answered, Carries, Plays, Runs, called}

module _ {A : Type 0} where
  -- what a call leaves of the room
  room_put : (v w : Meaning A) (i : ℕ) (k : A) (r : Result Unit SetFault) → InsertsAt v i k r w → w.room ≡ v.room
  room_put v w i k (Ok _) t = ap (λ (m : Meaning A). m.room) t.1
  room_put v w i k (Err _) t = ap (λ (m : Meaning A). m.room) t.1

  room_after : (v w : Meaning A) (p k : A) (r : Result Unit SetFault) → InsertsAfter v p k r w → w.room ≡ v.room
  room_after v w p k (Ok u) t = room_put v w (t.0 + 1) k (Ok u) t.2
  room_after v w p k (Err _) t = ap (λ (m : Meaning A). m.room) t.1

  room_key : (v w : Meaning A) (k : A) (r : Option ℕ) → RemovesKey v k r w → w.room ≡ v.room
  room_key v w k (Some i) t = ap (λ (m : Meaning A). m.room) t.1
  room_key v w k None t = ap (λ (m : Meaning A). m.room) t.1

  room_at : (v w : Meaning A) (i : ℕ) (r : Option A) → RemovesAt v i r w → w.room ≡ v.room
  room_at v w i (Some k) t = ap (λ (m : Meaning A). m.room) t.1
  room_at v w i None t = ap (λ (m : Meaning A). m.room) t.1

  -- the meaning of a list is that of its deeds
  meaning_told : (n : ℕ) (ds : List (Deed A)) (s : Lent A) → size s ≡ n → Told ds s → means s ≡ meant n ds
  meaning_told n ds s e w = ap (λ (m : ℕ). record { order = kept s; room = m }) e ∙ ap (λ (xs : List A). record { order = xs; room = n }) w.order

  both : (R : Meaning A → Meaning A → Type 0) (ds es : List (Deed A)) (s t : Lent A) → size t ≡ size s → Told ds s → Told es t → R (means s) (means t) → R (meant (size s) ds) (meant (size s) es)
  both R ds es s t e w x h =
      subst (λ (m : Meaning A). R m (meant (size s) es)) (meaning_told (size s) ds s refl w)
      (subst (λ (m : Meaning A). R (means s) m) (meaning_told (size s) es t e x) h)

  module _ (ds : List (Deed A)) (s t : Lent A) (w : Told ds s) where
    pub carries_head : (k : A) (d : ℕ) (r : Result Unit SetFault) → InsertsAt (means s) 0 k r (means t) → Told (after_put r (put 0 k d) ds) t → (is_ok r ≡ false → t ≡ s) → Carries ds s (InsertHead k d) (Put r) t
    carries_head k d r h x u =
        let e = room_put _ _ 0 k r h in
        record { after = after_put r (put 0 k d) ds; adds = (r, refl, both (λ v m. InsertsAt v 0 k r m) ds _ s t e w x h, refl); told = x; room = e; unmoved = u }

    pub carries_index : (i : ℕ) (k : A) (d : ℕ) (r : Result Unit SetFault) → InsertsAt (means s) i k r (means t) → Told (after_put r (put i k d) ds) t → (is_ok r ≡ false → t ≡ s) → Carries ds s (InsertIndex i k d) (Put r) t
    carries_index i k d r h x u =
        let e = room_put _ _ i k r h in
        record { after = after_put r (put i k d) ds; adds = (r, refl, both (λ v m. InsertsAt v i k r m) ds _ s t e w x h, refl); told = x; room = e; unmoved = u }

    pub carries_after : (p k : A) (d : ℕ) (r : Result Unit SetFault) → InsertsAfter (means s) p k r (means t) → Next Told r p k d ds t → (is_ok r ≡ false → t ≡ s) → Carries ds s (InsertAfter p k d) (Put r) t
    carries_after p k d (Ok o) h x u =
        let e = room_after _ _ p k (Ok o) h in
        record { after = put (x.0 + 1) k d ∷ ds; adds = (Ok o, refl, both (λ v m. InsertsAfter v p k (Ok o) m) ds _ s t e w x.2 h, (x.0, x.1, refl)); told = x.2; room = e; unmoved = u }
    carries_after p k d (Err f) h x u =
        let e = room_after _ _ p k (Err f) h in
        record { after = ds; adds = (Err f, refl, both (λ v m. InsertsAfter v p k (Err f) m) ds ds s t e w x h, refl); told = x; room = e; unmoved = u }

    pub carries_after_in : {B : Type 0} (f : B → Lent A) (b : B) → t ≡ f b → (p k : A) (d : ℕ) (r : Result Unit SetFault) → InsertsAfter (means s) p k r (means t) → Next (λ es u. Told es (f u)) r p k d ds b → (is_ok r ≡ false → t ≡ s) → Carries ds s (InsertAfter p k d) (Put r) t
    carries_after_in f b e p k d (Ok o) h x u = carries_after p k d (Ok o) h (x.0, x.1, subst (λ (y : Lent A). Told (put (x.0 + 1) k d ∷ ds) y) (sym e) x.2) u
    carries_after_in f b e p k d (Err o) h x u = carries_after p k d (Err o) h (subst (λ (y : Lent A). Told ds y) (sym e) x) u

    pub carries_out : (k : A) (r : Option ℕ) → RemovesKey (means s) k r (means t) → Told (after_key r ds) t → (is_some r ≡ false → t ≡ s) → Carries ds s (RemoveKey k) (Place r) t
    carries_out k r h x u =
        let e = room_key _ _ k r h in
        record { after = after_key r ds; adds = (r, refl, both (λ v m. RemovesKey v k r m) ds _ s t e w x h, refl); told = x; room = e; unmoved = u }

    pub carries_out_at : (i : ℕ) (r : Option A) → RemovesAt (means s) i r (means t) → Told (after_at r i ds) t → (is_some r ≡ false → t ≡ s) → Carries ds s (RemoveIndex i) (Key r) t
    carries_out_at i r h x u =
        let e = room_at _ _ i r h in
        record { after = after_at r i ds; adds = (r, refl, both (λ v m. RemovesAt v i r m) ds _ s t e w x h, refl); told = x; room = e; unmoved = u }

    pub carries_found : (k : A) (r : Option ℕ) → Found (kept s) k r → t ≡ s → Carries ds s (IndexOf k) (Place r) t
    carries_found k r h e =
        record { after = ds; adds = (r, refl, subst (λ (xs : List A). Found xs k r) w.order h, refl); told = subst (λ (x : Lent A). Told ds x) (sym e) w; room = ap size e; unmoved = λ _. e }

    pub carries_given : (i : ℕ) (r : Option A) → Given (kept s) i r → t ≡ s → Carries ds s (KeyOf i) (Key r) t
    carries_given i r h e =
        record { after = ds; adds = (r, refl, subst (λ (xs : List A). Given xs i r) w.order h, refl); told = subst (λ (x : Lent A). Told ds x) (sym e) w; room = ap size e; unmoved = λ _. e }

  -- a splice
  room_splice : (v w : Meaning A) (i : ℕ) (ks : List A) (n : ℕ) (r : Result ℕ SetFault) → Splices v i ks n r w → w.room ≡ v.room
  room_splice v w i ks n (Ok m) t = ap (λ (x : Meaning A). x.room) t.3.2
  room_splice v w i ks n (Err f) t = ap (λ (x : Meaning A). x.room) t.1

  pub carries_splice : (ds : List (Deed A)) (s t : Lent A) (i : ℕ) (ks : Bor (List A)) (draws : Bor (List ℕ)) (r : Result ℕ SetFault)
      → Splices (means s) i ks.now (length draws.now) r (means t) → SplicesTold Told (size s) ds i ks.now draws.now r t → (is_ok r ≡ false → t ≡ s) → Carries ds s (Splice i ks draws) (Spliced r) t
  carries_splice ds s t i ks draws r h x u = record { after = x.0; adds = (r, refl, x.1); told = x.2; room = room_splice _ _ i ks.now _ r h; unmoved = u }

  -- a call more
  pub plays_more : (n : ℕ) (ds es fs : List (Deed A)) (ts : List (Turn A)) (t : Turn A) (a : Answer A) → t.answer ≡ Some a → Plays n ds ts es → Adds n es t.call a fs → Plays n ds (ts ++ t ∷ []) fs
  plays_more n ds es fs [] t a q p b = (a, fs, q, subst (λ (x : List (Deed A)). Adds n x t.call a fs) p b, refl)
  plays_more n ds es fs (u ∷ ts) t a q p b = (p.0, p.1, p.2, p.3, plays_more n p.1 es fs ts t a q p.4 b)

  pub runs_more : (ds : List (Deed A)) (s u v : Lent A) (ts : List (Turn A)) (i : ℕ) (t : Turn A) → i < length ts → Runs ds s (take i ts) u →
      ((es : List (Deed A)) → Told es u → Answered es u t v) → Runs ds s (take (i + 1) (set ts i t)) v
  runs_more ds s u v ts i t lt r f =
      let c = f r.after r.told in
      record {
        after = c.2.after;
        plays = subst (λ (x : List (Turn A)). Plays (size s) ds x c.2.after) (sym (take_more_set ts i t lt))
            (plays_more (size s) ds r.after c.2.after (take i ts) t c.0 c.1 r.plays (subst (λ (n : ℕ). Adds n r.after t.call c.0 c.2.after) r.room c.2.adds));
        told = c.2.told;
        room = c.2.room ∙ r.room;
      }

  -- an answer written beside its call leaves the calls
  pub calls_stay : (ts : List (Turn A)) (i : ℕ) (t d : Turn A) → called t ≡ called (get_or ts i d) → map called (set ts i t) ≡ map called ts
  calls_stay [] i t d e = refl
  calls_stay (x ∷ ts) zero t d e = ap (λ (c : Call A). c ∷ map called ts) e
  calls_stay (x ∷ ts) (suc i) t d e = ap (λ (cs : List (Call A)). called x ∷ cs) (calls_stay ts i t d e)
