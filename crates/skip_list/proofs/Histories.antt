-- What histories leave.
use Rattle.std.proofs.Common.{◌≡◌, ℕ, ◌+◌, ◌<◌, ◌≤◌, max, ◌⊎◌, List, [], ◌∷◌, length, get_or, Some, None, Ok, Err, Option, Result, sym, refl, ap, ◌∙◌, subst, inl, inr, ⊎_elim, arith}
use Rattle.std.specs.List.{insert, remove}
use Rattle.std.proofs.lemmas.List.Edits.{length-insert, get_or-insert_at, get_or-insert_below, get_or-insert_above, length-remove, get_or-remove_below, get_or-remove_above}
use Rattle.std.proofs.lemmas.Bool.{cases_lt}
use Rattle.order.specs.declared.fault.SetFault.{SetFault}
use Rattle.order.specs.Order.{At, Absent}
use Rattle.order.proofs.Places.{Before, before_inserted, before_removed}
use Rattle.skip_list.specs.declared.lent.Lent.{Lent}
use Rattle.skip_list.specs.Law.{LevelLaw}
use Rattle.skip_list.specs.Lent.{kept}
use Rattle.skip_list.proofs.Laws.{law_of}
use Rattle.skip_list.specs.Level.{level_of}
use Rattle.skip_list.specs.declared.report.KeyLinks.{KeyLinks}
use Rattle.skip_list.specs.declared.fault.ListFault.{ListFault}
use Rattle.skip_list.specs.Tower.{highs, height, Leveled, Linked}
use Rattle.order.specs.Deeds.{Deed, Next, after_put, order_after, out, put}
use Rattle.skip_list.specs.History.{levels_after, height_after, Fair, Told, LastPut, Largest, LevelTold}

cases_le : (a b : ℕ) → (a ≤ b) ⊎ (b ≤ a)
cases_le a b = ⊎_elim (λ h. inl (omega arith)) inr (cases_lt a b)

module _ {A : Type 0} where
  same_length : (ds : List (Deed A)) → Fair ds → length (levels_after ds) ≡ length (order_after ds)
  same_length [] f = refl
  same_length (put i k d ∷ ds) f =
      let l = same_length ds f.2 in
      length-insert (levels_after ds) i (level_of d) (omega (arith, f.1)) ∙ omega (arith, length-insert (order_after ds) i k f.1)
  same_length (out i ∷ ds) f =
      let l = same_length ds f.1 in
      omega (arith, length-remove (levels_after ds) i (omega (arith, f.0)), length-remove (order_after ds) i f.0)

  pub last_draw : (ds : List (Deed A)) (j : ℕ) (k : A) → Fair ds → At (order_after ds) j k → (d : ℕ) × LastPut ds k d × (get_or (levels_after ds) j 0 ≡ level_of d)
  unfolding Before
  last_draw [] j k f a = absurd (omega (arith, a.0))
  last_draw (put i y e ∷ ds) j k f a =
      let l = same_length ds f.2 in
      let hs = levels_after ds in
      ⊎_elim
      (λ (p : (j ≡ i) × (y ≡ k)).
      (e, inl (p.1, refl), ap (λ (x : ℕ). get_or (insert hs i (level_of e)) x 0) p.0 ∙ get_or-insert_at hs i (level_of e) 0 (omega (arith, f.1))))
      (λ (p : (m : ℕ) × At (order_after ds) m k × (((j ≡ m) × (m < i)) ⊎ ((j ≡ m + 1) × (i ≤ m)))).
      let r = last_draw ds p.0 k f.2 p.1 in
      let other : y ≡ k → ⊥ = λ e. f.0 p.0 (subst (λ (x : A). At (order_after ds) p.0 x) (sym e) p.1) in
      let moved : get_or (insert hs i (level_of e)) j 0 ≡ get_or hs p.0 0 =
      ⊎_elim
      (λ q. ap (λ (x : ℕ). get_or (insert hs i (level_of e)) x 0) q.0 ∙ get_or-insert_below hs i (level_of e) 0 p.0 q.1 (omega (arith, f.1)))
      (λ q. ap (λ (x : ℕ). get_or (insert hs i (level_of e)) x 0) q.0 ∙ get_or-insert_above hs i (level_of e) 0 p.0 q.1 (omega (arith, f.1)))
      p.2 in
      (r.0, inr (other, r.1), moved ∙ r.2))
      (before_inserted (order_after ds) i y f.1 j k a)
  last_draw (out i ∷ ds) j k f a =
      let l = same_length ds f.1 in
      let hs = levels_after ds in
      let p = before_removed (order_after ds) i f.0 j k a in
      let r = last_draw ds p.0 k f.1 p.1 in
      let moved : get_or (remove hs i) j 0 ≡ get_or hs p.0 0 =
      ⊎_elim
      (λ q. get_or-remove_below hs i 0 j q.1 (omega (arith, f.0)) ∙ ap (λ (x : ℕ). get_or hs x 0) q.0)
      (λ q. get_or-remove_above hs i 0 j q.1 (omega (arith, f.0)) ∙ ap (λ (x : ℕ). get_or hs x 0) q.0)
      p.2 in
      (r.0, r.1, moved ∙ r.2)

  pub largest : (ds : List (Deed A)) → Largest ds
  largest [] = ((λ d x. absurd x), inl refl)
  largest (put i k e ∷ ds) =
      let r = largest ds in (
        (λ d x. ⊎_elim (λ q. omega (arith, ap level_of q)) (λ q. omega (arith, r.0 d q)) x),
        ⊎_elim
            (λ (q : level_of e ≤ height_after ds).
            let m : max (level_of e) (height_after ds) ≡ height_after ds = omega arith in
            ⊎_elim (λ o. inl (m ∙ o)) (λ o. inr (o.0, inr o.1, m ∙ o.2)) r.1)
            (λ (q : height_after ds ≤ level_of e). let m : max (level_of e) (height_after ds) ≡ level_of e = omega arith in inr (e, inl refl, m))
            (cases_le (level_of e) (height_after ds)),
      )
  largest (out i ∷ ds) = largest ds

  -- a list that is ready and has the order, the levels and the height of a history obeys its law
  pub tells : (ds : List (Deed A)) (s : Lent A) → kept s ≡ order_after ds → highs s ≡ levels_after ds → height s ≡ height_after ds → Fair ds → Told ds s
  tells ds s o v h f =
      record {
        order = o;
        levels_are = v;
        height_is = h;
        fair = f;
        last = λ j k a. last_draw ds j k f a;
        largest = largest ds;
        links = λ l lt. subst (λ (xs : List A). LevelLaw s xs (levels_after ds) l) o (subst (λ (vs : List ℕ). LevelLaw s (kept s) vs l) v (law_of s l (subst (λ (n : ℕ). l < n) (sym h) lt)));
      }

  pub told_put : (ds : List (Deed A)) (s t : Lent A) (i : ℕ) (k : A) (d v : ℕ) → Told ds s → Absent (kept s) k → i ≤ length (kept s) → kept t ≡ insert (kept s) i k →
      highs t ≡ insert (highs s) i v → height t ≡ max v (height s) → v ≡ level_of d → Told (put i k d ∷ ds) t
  told_put ds s t i k d v w none le ks hs h e =
      tells (put i k d ∷ ds) t
      (ks ∙ ap (λ (x : List A). insert x i k) w.order)
      (hs ∙ ap (λ (x : List ℕ). insert x i v) w.levels_are ∙ ap (λ (x : ℕ). insert (levels_after ds) i x) e)
      (h ∙ ap (λ (x : ℕ). max v x) w.height_is ∙ ap (λ (x : ℕ). max x (height_after ds)) e)
      (subst (λ (x : List A). Absent x k) w.order none, subst (λ (x : List A). i ≤ length x) w.order le, w.fair)

  pub told_out : (ds : List (Deed A)) (s t : Lent A) (i : ℕ) → Told ds s → i < length (kept s) → kept t ≡ remove (kept s) i → highs t ≡ remove (highs s) i → height t ≡ height s → Told (out i ∷ ds) t
  told_out ds s t i w lt ks hs h =
      tells (out i ∷ ds) t
      (ks ∙ ap (λ (x : List A). remove x i) w.order)
      (hs ∙ ap (λ (x : List ℕ). remove x i) w.levels_are)
      (h ∙ w.height_is)
      (subst (λ (x : List A). i < length x) w.order lt, w.fair)

  -- a level report, by the history
  pub level_told : (ds : List (Deed A)) (s : Lent A) (k : A) (r : Option ℕ) → Told ds s → Leveled (kept s) (highs s) k r → LevelTold ds k r
  level_told ds s k None w f = subst (λ (x : List A). Absent x k) w.order f
  level_told ds s k (Some v) w f =
      let a = subst (λ (x : List A). At x f.0 k) w.order f.1 in
      let r = last_draw ds f.0 k w.fair a in
      ((f.0, a), (r.0, r.1, f.2 ∙ ap (λ (x : List ℕ). get_or x f.0 0) w.levels_are ∙ r.2))

  pub linked_told : (ds : List (Deed A)) (s : Lent A) (of : Option A) (l : ℕ) (r : Result (KeyLinks A) ListFault) → Told ds s → Linked (kept s) (highs s) (height s) of l r →
      Linked (order_after ds) (levels_after ds) (height_after ds) of l r
  linked_told ds s of l r w f =
      subst (λ (x : List A). Linked x (levels_after ds) (height_after ds) of l r) w.order
      (subst (λ (x : List ℕ). Linked (kept s) x (height_after ds) of l r) w.levels_are
      (subst (λ (x : ℕ). Linked (kept s) (highs s) x of l r) w.height_is f))

  pub told_next : {B : Type 0} (told : List (Deed A) → B → Type 0) (ds : List (Deed A)) (t : B) (p k : A) (i d : ℕ) (r : Result Unit SetFault) → At (order_after ds) i p → told (after_put r (put (i + 1) k d) ds) t → Next told r p k d ds t
  told_next told ds t p k i d (Ok u) a w = (i, a, w)
  told_next told ds t p k i d (Err e) a w = w
