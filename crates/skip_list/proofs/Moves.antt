-- A list that a row came into, and one that a row left.
use Rattle.std.proofs.Common.{◌≡◌, ℕ, zero, suc, ◌+◌, ◌-◌, ◌<◌, ◌≤◌, max, ◌≢◌, List, [], ◌∷◌, length, get_or, set, sym, refl, ap, ◌∙◌, subst, arith, get_or-set_other, get_or-set_same}
use Rattle.links.specs.Chain.{Each}
use Rattle.skip_list.specs.Tower.{high, highs, height}
use Rattle.std.specs.List.{insert, remove}
use Rattle.std.proofs.lemmas.List.{length-set}
use Rattle.order.specs.Order.{At}
use Rattle.links.specs.Cells.{cells, levels}
use Rattle.links.specs.Ring.{order, raised}
use Rattle.links.specs.Ring as ring
use Rattle.index.specs.Index.{Indexed, tally}
use Rattle.index.proofs.Cut.{shuffled}
use Rattle.skip_list.specs.declared.lent.Lent.{Lent}
use Rattle.skip_list.specs.Lent.{lower, picked, keys_of, size, used, kept, Enters, Chained}
use Rattle.skip_list.proofs.Picks.{lower_inserted, lower_removed, picked_inserted, picked_removed, not_in, tally_inserted, tally_removed}
use Rattle.skip_list.proofs.Readies.{ready, rows_below}

high_inserted : (ls os : List ℕ) (i r : ℕ) → high ls (insert os i r) ≡ insert (high ls os) i (get_or ls r 0)
high_inserted ls os zero r = refl
high_inserted ls [] (suc i) r = refl
high_inserted ls (o ∷ os) (suc i) r = ap (λ (y : List ℕ). get_or ls o 0 ∷ y) (high_inserted ls os i r)

high_removed : (ls os : List ℕ) (i : ℕ) → high ls (remove os i) ≡ remove (high ls os) i
high_removed ls [] zero = refl
high_removed ls (o ∷ os) zero = refl
high_removed ls [] (suc i) = refl
high_removed ls (o ∷ os) (suc i) = ap (λ (y : List ℕ). get_or ls o 0 ∷ y) (high_removed ls os i)

-- the levels of the rows that were in the order stay
high_raised : (ls : List ℕ) (r v : ℕ) (P : ℕ → Type 0) (os : List ℕ) → ((o : ℕ) → P o → o ≢ 0) → Each P os → Each (λ x. x ≢ r) os → high (raised ls r v) os ≡ high ls os
high_raised ls r v P [] f p e = refl
high_raised ls r v P (o ∷ os) f p e =
    let h : get_or (raised ls r v) o 0 ≡ get_or ls o 0 = get_or-set_other (set ls r v) 0 o (max v (get_or ls 0 0)) 0 (f o p.0) ∙ get_or-set_other ls r o v 0 e.0 in
    let t = high_raised ls r v P os f p.1 e.1 in
    cc

module _ {A : Type 0} (s : Lent A) (i v : ℕ) (e : Enters s i v) where
  pub enters_links : ring.Enters (cells s.links) s.links.len i (s.index.free + 1) v
  enters_links = record {
    place = e.place;
    room = omega (arith, e.room, (ready s).few);
    row_low = omega arith;
    row_high = omega (arith, e.free_low, (ready s).sized);
    absent = not_in s.index.free (order (cells s.links) s.links.len) e.unused;
    level_low = e.level_low;
    level_high = e.level_high;
  }

  -- the sizes fit as before
  pub few_put : (ks : List A) (k : A) → ks ≡ set (keys_of s) s.index.free k → length ks ≤ 4096
  few_put ks k keys = omega (arith, ap length keys, length-set (keys_of s) s.index.free k, (ready s).few)

  pub sized_put : (ks : List A) (k : A) (ls : List ℕ) → ks ≡ set (keys_of s) s.index.free k → ls ≡ raised (levels (cells s.links)) (s.index.free + 1) v → length ls ≡ length ks + 1
  sized_put ks k ls keys lev =
      omega (
        arith,
        ap length keys,
        length-set (keys_of s) s.index.free k,
        ap length lev,
        length-set (set (levels (cells s.links)) (s.index.free + 1) v) 0 (max v (get_or (levels (cells s.links)) 0 0)),
        length-set (levels (cells s.links)) (s.index.free + 1) v,
        (ready s).sized,
      )

  module _ (t : Lent A) (k : A) (keys : keys_of t ≡ set (keys_of s) s.index.free k)
      (put : order (cells t.links) t.links.len ≡ insert (order (cells s.links) s.links.len) i (s.index.free + 1)) where
    size_put : size t ≡ size s
    size_put = ap length keys ∙ length-set (keys_of s) s.index.free k

    pub used_put : used t ≡ insert (used s) i s.index.free
    used_put =
        let one : s.index.free + 1 - 1 ≡ s.index.free = omega arith in
        ap lower put ∙ lower_inserted (order (cells s.links) s.links.len) i (s.index.free + 1) ∙ ap (λ (x : ℕ). insert (used s) i x) one

    pub kept_put : kept t ≡ insert (kept s) i k
    kept_put =
        ap (λ (x : List A). picked x (used t)) keys ∙ ap (λ (x : List ℕ). picked (set (keys_of s) s.index.free k) x) used_put
        ∙ picked_inserted (keys_of s) (used s) i s.index.free k e.free_low e.unused (rows_below s)

    pub highs_put : levels (cells t.links) ≡ raised (levels (cells s.links)) (s.index.free + 1) v → highs t ≡ insert (highs s) i v
    highs_put lev =
        let ls = levels (cells s.links) in
        let os = order (cells s.links) s.links.len in
        let r = s.index.free + 1 in
        let low : 0 < length ls = omega (arith, (ready s).sized) in
        let new : get_or (raised ls r v) r 0 ≡ v =
        get_or-set_other (set ls r v) 0 r (max v (get_or ls 0 0)) 0 (omega arith) ∙ get_or-set_same ls r v 0 (omega (arith, e.free_low, (ready s).sized)) in
        ap (λ (x : List ℕ). high x (order (cells t.links) t.links.len)) lev ∙ ap (λ (x : List ℕ). high (raised ls r v) x) put
        ∙ high_inserted (raised ls r v) os i r
        ∙ ap (λ (x : List ℕ). insert x i (get_or (raised ls r v) r 0)) (high_raised ls r v _ os (λ o q. omega (arith, q.0)) (ready s).holds.0.sound.1.0 (not_in s.index.free os e.unused))
        ∙ ap (λ (x : ℕ). insert (highs s) i x) new

    pub height_put : levels (cells t.links) ≡ raised (levels (cells s.links)) (s.index.free + 1) v → height t ≡ max v (height s)
    height_put lev =
        let ls = levels (cells s.links) in
        ap (λ (x : List ℕ). get_or x 0 0) lev
        ∙ get_or-set_same (set ls (s.index.free + 1) v) 0 (max v (get_or ls 0 0)) 0 (omega (arith, length-set ls (s.index.free + 1) v, (ready s).sized))

    pub chained_put : (home : ℕ → ℕ) → Indexed home t.index.slots.now (size s) t.index.free (s.index.free ∷ used s) → Chained t home (used t)
    chained_put home x =
        subst (λ (n : ℕ). Indexed home t.index.slots.now n t.index.free (used t)) (sym size_put)
        (shuffled home _ (size s) _ (s.index.free ∷ used s) (used t)
        (λ q. sym (ap (λ (z : List ℕ). tally q z) used_put ∙ tally_inserted q (used s) i s.index.free)) x)

module _ {A : Type 0} (s t : Lent A) (i r : ℕ) (a : At (used s) i r) (keys : keys_of t ≡ keys_of s)
    (out : order (cells t.links) t.links.len ≡ remove (order (cells s.links) s.links.len) i) where
  pub used_out : used t ≡ remove (used s) i
  used_out = ap lower out ∙ lower_removed (order (cells s.links) s.links.len) i

  pub kept_out : kept t ≡ remove (kept s) i
  kept_out = ap (λ (x : List A). picked x (used t)) keys ∙ ap (λ (x : List ℕ). picked (keys_of s) x) used_out ∙ picked_removed (keys_of s) (used s) i (rows_below s)

  pub highs_out : levels (cells t.links) ≡ levels (cells s.links) → highs t ≡ remove (highs s) i
  highs_out lev =
      ap (λ (x : List ℕ). high x (order (cells t.links) t.links.len)) lev ∙ ap (λ (x : List ℕ). high (levels (cells s.links)) x) out
      ∙ high_removed (levels (cells s.links)) (order (cells s.links) s.links.len) i

  pub chained_out : (home : ℕ → ℕ) → ((rows : List ℕ) → Indexed home s.index.slots.now (size s) s.index.free (r ∷ rows) → Indexed home t.index.slots.now (size s) t.index.free rows) →
      Chained s home (used s) → Chained t home (used t)
  chained_out home cut x =
      subst (λ (n : ℕ). Indexed home t.index.slots.now n t.index.free (used t)) (sym (ap length keys))
      (cut (used t) (shuffled home _ (size s) _ (used s) (r ∷ used t)
      (λ q. tally_removed q (used s) i r a ∙ ap (λ (z : List ℕ). tally q (r ∷ z)) (sym used_out)) x))
