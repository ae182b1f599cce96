-- A row that gets its level and comes in at a place.
use Rattle.std.proofs.Common.{◌≡◌, ℕ, zero, suc, ◌+◌, ◌<◌, ◌≤◌, max, ◌≢◌, List, [], ◌∷◌, length, get_or, take, drop, set, sym, ap, ◌∙◌, subst, arith, length-drop, length-set, get_or-set_other, get_or-set_same}
use Rattle.std.specs.List.{insert}
use Rattle.std.proofs.lemmas.List.{drop_all}
use Rattle.std.proofs.lemmas.List.Edits.{length-insert}
use Rattle.links.specs.declared.Row.{Row}
use Rattle.links.specs.Cell.{levels}
use Rattle.links.specs.Chain.{Each, Half}
use Rattle.links.specs.Ring.{Ring, Place, Enters, Leveled, Holds, order, turned, first}
use Rattle.links.proofs.Chains.{each_map}
use Rattle.links.proofs.Levels.{ring_leveled, Rounds, level_alone}
use Rattle.links.proofs.Orders.{length_order, length_here, ring_at, ring_whole, holds_from}

each_at : (P : ℕ → Type 0) (i : ℕ) (os zs : List ℕ) → Each P os → Each P zs → Each P (turned (take i os) zs) × Each P (drop i os)
each_at P zero os zs e z = (z, e)
each_at P (suc i) [] zs e z = (z, tt)
each_at P (suc i) (o ∷ os) zs e z = each_at P i os (o ∷ zs) e.1 (e.0, z)

no_zero : (size : ℕ) (xs ys : List ℕ) → Half size xs ys → Each (λ r. r ≢ 0) xs
no_zero size xs ys h = each_map (λ r. (0 < r) × (r < size) × Each (λ y. y ≢ r) ys) (λ r. r ≢ 0) (λ r t. omega (arith, t.0)) xs h.0

pub enters_place : (a b d c : List Row) (n i r v h₀ h after : ℕ) → Holds a n → Enters a n i r v → Leveled a b r v → h₀ ≡ get_or (levels a) 0 0 → ((xs ys : List ℕ) → Ring b xs ys → Ring d xs ys) → levels d ≡ levels b →
    Rounds d h₀ v (record { row = 0; count = n + 1 }) → Leveled d c 0 h → h ≡ max v h₀ →
    after ≡ first (turned (take i (order a n)) []) → Place c after r (turned (take i (order a n)) []) (drop i (order a n))
enters_place a b d c n i r v h₀ h after held e f h₀-is kept same rounds g h-is at-is =
    let os = order a n in
    let xs = turned (take i os) [] in
    let ys = drop i os in
    let apart = each_at (λ x. x ≢ r) i os [] e.absent tt in
    let ra = ring_at a os i held.0 in
    let zero-ne : 0 ≢ r = omega (arith, e.row_low) in
    let h-b : get_or (levels b) 0 0 ≡ get_or (levels a) 0 0 = ap (λ x. get_or x 0 0) f.level ∙ get_or-set_other (levels a) r 0 v 0 zero-ne in
    let h-s : get_or (set (levels a) r v) 0 0 ≡ get_or (levels a) 0 0 = get_or-set_other (levels a) r 0 v 0 zero-ne in
    let rb : Ring b xs ys = ring_leveled a b r v xs ys f apart.0 apart.1 (subst (λ x. (0 < x) × (x ≤ 16) × (x ≤ x)) (sym h-s) ra.head_tall)
    (omega (arith, h-s)) (λ l le lt. absurd (omega (arith, h-s))) ra in
    let size-b : length (levels b) ≡ length (levels a) = ap length f.level ∙ length-set (levels a) r v in
    let size-c : length (levels c) ≡ length (levels a) = ap length g.level ∙ length-set (levels d) 0 h ∙ ap length same ∙ size-b in
    let some : 0 < length (levels d) = omega (arith, e.row_high, size-b, ap length same) in
    let rd : Ring d xs ys = kept xs ys rb in
    let h-d : get_or (levels d) 0 0 ≡ h₀ = ap (λ x. get_or x 0 0) same ∙ h-b ∙ sym h₀-is in
    let h-c : get_or (set (levels d) 0 h) 0 0 ≡ h = get_or-set_same (levels d) 0 h 0 some in
    let count : length xs + length ys ≡ n = omega (arith, length_order a n, length_here os i (omega (arith, e.place, length_order a n)), length-drop i os, e.place) in
    let t : (0 < h) × (h ≤ 16) × (h ≤ h) = (omega (arith, e.level_low, h-is), omega (arith, e.level_high, h-is, h₀-is, ra.head_tall.1), omega arith) in
    let rc : Ring c xs ys = ring_leveled d c 0 h xs ys g (no_zero _ xs ys rd.sound.0) (no_zero _ ys xs rd.sound.1) (subst (λ x. (0 < x) × (x ≤ 16) × (x ≤ x)) (sym h-c) t)
    (omega (arith, h-c, h-d, h-is))
    (λ l le lt. (let k = rounds l (omega (arith, h-d)) (omega (arith, h-c, h-d, h-is)) in level_alone d l n xs ys rd le count k.0 k.1)) rd in
    let r-ne : r ≢ 0 = omega (arith, e.row_low) in
    let lev : v ≡ get_or (levels c) r 0 = sym (ap (λ x. get_or x r 0) g.level ∙ get_or-set_other (levels d) 0 r h 0 r-ne ∙ ap (λ x. get_or x r 0) (same ∙ f.level) ∙ get_or-set_same (levels a) r v 0 e.row_high) in
    let top : h ≡ get_or (levels c) 0 0 = sym (ap (λ x. get_or x 0 0) g.level ∙ h-c) in
    record {
      ring = rc;
      fresh = (e.row_low, omega (arith, e.row_high, size-c), apart.0, apart.1);
      high = (omega (arith, lev, e.level_low), omega (arith, lev, e.level_high), omega (arith, lev, top, h-is));
      after_is = at-is;
      few = omega (arith, count, e.room);
    }

pub enters_count : (a : List Row) (n i r v : ℕ) → Enters a n i r v → i + 1 ≡ length (turned (take i (order a n)) []) + 1
enters_count a n i r v e = omega (arith, length_order a n, length_here (order a n) i (omega (arith, e.place, length_order a n)))

-- what came in at a split, told as one list
pub entered : (a d : List Row) (n i r : ℕ) → Ring d (turned (take i (order a n)) []) (r ∷ drop i (order a n)) → Ring d [] (insert (order a n) i r)
entered a d n i r g = ring_whole d (take i (order a n)) (r ∷ drop i (order a n)) g

-- nothing stands after the last
none_after : (a : List Row) (n i : ℕ) → i ≡ n → drop i (order a n) ≡ []
none_after a n i e = drop_all i (order a n) (omega (arith, length_order a n))

pub place_last : (a c : List Row) (n i after r : ℕ) (xs : List ℕ) → i ≡ n → Place c after r xs (drop i (order a n)) → Place c after r xs []
place_last a c n i after r xs e p = subst (λ ys. Place c after r xs ys) (none_after a n i e) p

pub entered_last : (a d : List Row) (n i r : ℕ) → i ≡ n → Ring d (turned (take i (order a n)) []) (r ∷ []) → Ring d [] (insert (order a n) i r)
entered_last a d n i r e g = entered a d n i r (subst (λ ys. Ring d (turned (take i (order a n)) []) (r ∷ ys)) (sym (none_after a n i e)) g)

-- one row more
pub one_more : (a d : List Row) (n i r v : ℕ) → Enters a n i r v → Ring d [] (insert (order a n) i r) → Holds d (n + 1) × (order d (n + 1) ≡ insert (order a n) i r)
one_more a d n i r v e g =
    let l = length_order a n in
    holds_from d (insert (order a n) i r) (n + 1) (omega (arith, length-insert (order a n) i r (omega (arith, e.place)))) (omega (arith, e.room)) g
