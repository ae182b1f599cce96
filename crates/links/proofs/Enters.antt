-- A change of the order from the top level down: t levels are left to do, where the split has us before it; the others have vs.
use Rattle.std.proofs.Common.{◌≡◌, ℕ, ◌+◌, ◌-◌, ◌<◌, ◌≤◌, Bool, true, ◌≢◌, List, ◌∷◌, length, get_or, sym, refl, ap, ◌∙◌, subst, inl, inr, eq-or-lt_of_le, arith, lt-ltb}
use Rattle.std.proofs.lemmas.Bool.{cases_Bool}
use Rattle.links.specs.declared.Link.{Link}
use Rattle.links.specs.declared.Row.{Row}
use Rattle.links.specs.declared.Way.TheVariants.{Ahead}
use Rattle.links.specs.Cell.{levels, view}
use Rattle.links.specs.Chain.{limit, plus, nearest, Each, reach, at, Sound, Fresh, Stop, Nears}
use Rattle.links.specs.Ring.{Level, Only, Onto, Sides, Tall, Ring, Place, Standing, first}
use Rattle.links.proofs.Chains.{link_eq, hit, miss}
use Rattle.links.proofs.Climbs.{nearest_long, narrower}
use Rattle.links.proofs.Inserts.{level_kept, within, sound_in, sound_out, fresh_out}
use Rattle.links.proofs.Descents.{spans, stop_head, stop_nearest, stop_lower}

-- a level below t
pub less : (t : ℕ) → 0 < t → (t - 1) + 1 ≡ t
less t lt = omega arith

pub record Descent (a₀ a : List Row) (t n : ℕ) (pre : Link) (xs ys us vs : List ℕ) : Type 0 where
  pub levels_same : levels a ≡ levels a₀
  pub sound : Sound (length (levels a)) xs ys
  pub fresh : Fresh (length (levels a)) n xs ys
  pub few : length xs + length ys + 2 < limit
  pub stop : Stop (reach (levels a) t) xs pre
  pub left : (m : ℕ) → m < t → Level a m xs us
  pub done : (m : ℕ) → t ≤ m → m < get_or (levels a₀) 0 0 → Level a m xs vs

pub descent_starts : (a : List Row) (t n count : ℕ) (xs ys : List ℕ) → t ≡ get_or (levels a) 0 0 → Place a (first xs) n xs ys × (count ≡ length xs + 1) →
    Descent a a t n (record { row = 0; count = count }) xs ys ys (n ∷ ys)
descent_starts a t n count xs ys e p = record {
  levels_same = refl;
  sound = p.0.ring.sound;
  fresh = p.0.fresh;
  few = p.0.few;
  stop = stop_head (reach (levels a) t) xs (record { row = 0; count = count }) refl p.1;
  left = (λ m lt. p.0.ring.right m (omega arith));
  done = (λ m le lt. absurd (omega arith));
}

pub descent_nears : (a₀ a : List Row) (t l n : ℕ) (pre : Link) (xs ys us vs : List ℕ) → Descent a₀ a t n pre xs ys us vs → l + 1 ≡ t → Nears (levels a) (view Ahead l a) l xs us pre
unfolding Level
descent_nears a₀ a t l n pre xs ys us vs d e = (
  (d.left l (omega arith)).0.1,
  within _ xs ys d.sound.0,
  stop_lower (reach (levels a) l) (reach (levels a) (l + 1)) (narrower (levels a) l) xs pre (subst (λ k. Stop (reach (levels a) k) xs pre) (sym e) d.stop),
)

-- the two sides of the split, read off the one link over it
pub descent_sides : (a₀ a : List Row) (t l n : ℕ) (pre near over : Link) (xs ys vs : List ℕ) → Descent a₀ a t n pre xs ys ys vs → l + 1 ≡ t →
    near ≡ nearest (reach (levels a) l) xs → over ≡ at (view Ahead l a) near.row →
    Sides a l n near (record { row = over.row; count = (over.count + 1) - near.count }) xs ys × (over.count + 1 < limit) × (near.count ≤ over.count + 1)
descent_sides a₀ a t l n pre near over xs ys vs d e is o =
    let p = reach (levels a) l in
    let f = at (view Ahead l a) in
    let b = nearest_long p xs in
    let g = nearest_long p ys in
    let s : over ≡ plus (near.count - 1) (nearest p ys) = o ∙ ap (λ (x : Link). f x.row) is ∙ spans p f ys xs (descent_nears a₀ a t l n pre xs ys ys vs d e).0 ∙ ap (λ (x : Link). plus (x.count - 1) (nearest p ys)) (sym is) in
    let c = ap (λ (x : Link). x.count) s in
    let k = ap (λ (x : Link). x.count) is in (
      record {
        sound = d.sound;
        fresh = d.fresh;
        few = d.few;
        pre_is = is;
        suc_is = link_eq _ _ (ap (λ (x : Link). x.row) s) (omega (arith, c, k, b.0));
      },
      omega (arith, c, k, b.1, g.1, d.few),
      omega (arith, c, k, b.0),
    )

pub descent_step : (a₀ a b : List Row) (t l n : ℕ) (pre near : Link) (xs ys us vs : List ℕ) → Descent a₀ a t n pre xs ys us vs → l + 1 ≡ t →
    Only a b l → Level b l xs vs → near ≡ nearest (reach (levels a) l) xs → Descent a₀ b l n near xs ys us vs
descent_step a₀ a b t l n pre near xs ys us vs d e o h is = record {
  levels_same = o.levels_same ∙ d.levels_same;
  sound = subst (λ x. Sound (length x) xs ys) (sym o.levels_same) d.sound;
  fresh = subst (λ x. Fresh (length x) n xs ys) (sym o.levels_same) d.fresh;
  few = d.few;
  stop = subst (λ x. Stop (reach x l) xs near) (sym o.levels_same) (subst (λ k. Stop (reach (levels a) l) xs k) (sym is) (stop_nearest (reach (levels a) l) xs));
  left = (λ k lt. level_kept a b l k xs us o (omega arith) (d.left k (omega arith)));
  done = (λ k le lt. elim (eq-or-lt_of_le {n = l} {m = k} le) [
    | inl y ↦ subst (λ j. Level b j xs vs) y h
    | inr y ↦ level_kept a b l k xs vs o (omega arith) (d.done k (omega arith) lt)
  ]);
}

pub descent_ends : (a₀ a : List Row) (t after n : ℕ) (pre : Link) (xs ys : List ℕ) → t ≤ 0 → Place a₀ after n xs ys → Descent a₀ a t n pre xs ys ys (n ∷ ys) → Ring a xs (n ∷ ys)
descent_ends a₀ a t after n pre xs ys z p d =
    let e = sym d.levels_same in
    record {
      sound = sound_in (length (levels a)) n xs ys d.sound d.fresh;
      head_tall = subst (λ x. Tall x 0) e p.ring.head_tall;
      high_xs = subst (λ x. Each (Tall x) xs) e p.ring.high_xs;
      high_ys = (subst (λ x. Tall x n) e p.high, subst (λ x. Each (Tall x) ys) e p.ring.high_ys);
      right = (λ l lt. d.done l (omega arith) (subst (λ x. l < get_or x 0 0) d.levels_same lt));
    }

-- the same for a row that leaves
pub leaves_starts : (a : List Row) (t n count : ℕ) (xs ys : List ℕ) → t ≡ get_or (levels a) 0 0 → Standing a xs n ys × (count ≡ length xs + 1) →
    Descent a a t n (record { row = 0; count = count }) xs ys (n ∷ ys) ys
leaves_starts a t n count xs ys e p = record {
  levels_same = refl;
  sound = sound_out (length (levels a)) n xs ys p.0.0.sound;
  fresh = fresh_out (length (levels a)) n xs ys p.0.0.sound;
  few = p.0.1;
  stop = stop_head (reach (levels a) t) xs (record { row = 0; count = count }) refl p.1;
  left = (λ m lt. p.0.0.right m (omega arith));
  done = (λ m le lt. absurd (omega arith));
}

pub leaves_ends : (a₀ a : List Row) (t n : ℕ) (pre : Link) (xs ys : List ℕ) → t ≤ 0 → Ring a₀ xs (n ∷ ys) → Descent a₀ a t n pre xs ys (n ∷ ys) ys → Ring a xs ys
leaves_ends a₀ a t n pre xs ys z r d =
    let e = sym d.levels_same in
    record {
      sound = d.sound;
      head_tall = subst (λ x. Tall x 0) e r.head_tall;
      high_xs = subst (λ x. Each (Tall x) xs) e r.high_xs;
      high_ys = subst (λ x. Each (Tall x) ys) e r.high_ys.1;
      right = (λ l lt. d.done l (omega arith) (subst (λ x. l < get_or x 0 0) d.levels_same lt));
    }

pub leaves_onto : (a₀ a : List Row) (t l n : ℕ) (pre near over : Link) (xs ys : List ℕ) → Descent a₀ a t n pre xs ys (n ∷ ys) ys → l + 1 ≡ t →
    near ≡ nearest (reach (levels a) l) xs → over ≡ at (view Ahead l a) near.row → Onto a l n near over xs ys
leaves_onto a₀ a t l n pre near over xs ys d e is o = record { sound = sound_in (length (levels a)) n xs ys d.sound d.fresh; right = d.left l (omega arith); pre_is = is; over_is = o }

pub leaves_sides : (a₀ a : List Row) (t l n : ℕ) (pre near next : Link) (xs ys : List ℕ) → Descent a₀ a t n pre xs ys (n ∷ ys) ys →
    near ≡ nearest (reach (levels a) l) xs → next ≡ nearest (reach (levels a) l) ys → Sides a l n near next xs ys
leaves_sides a₀ a t l n pre near next xs ys d e f = record { sound = d.sound; fresh = d.fresh; few = d.few; pre_is = e; suc_is = f }

-- the link ahead of the nearest row behind n leads onto n, or over it
pub onto_over : (a : List Row) (l n : ℕ) (pre over : Link) (xs ys : List ℕ) → Onto a l n pre over xs ys → over ≡ plus (pre.count - 1) (nearest (reach (levels a) l) (n ∷ ys))
unfolding Level
onto_over a l n pre over xs ys h =
    let p = reach (levels a) l in
    let f = at (view Ahead l a) in
    h.over_is ∙ ap (λ (x : Link). f x.row) h.pre_is ∙ spans p f (n ∷ ys) xs h.right.0.1 ∙ ap (λ (x : Link). plus (x.count - 1) (nearest p (n ∷ ys))) (sym h.pre_is)

pub onto_some : (a : List Row) (l n : ℕ) (pre over : Link) (xs ys : List ℕ) → Onto a l n pre over xs ys → 1 ≤ pre.count
onto_some a l n pre over xs ys h = omega (arith, ap (λ (x : Link). x.count) h.pre_is, (nearest_long (reach (levels a) l) xs).0)

pub onto_least : (a : List Row) (l n : ℕ) (pre over : Link) (xs ys : List ℕ) → Onto a l n pre over xs ys → pre.count ≤ over.count
onto_least a l n pre over xs ys h = omega (arith, onto_some a l n pre over xs ys h, ap (λ (x : Link). x.count) (onto_over a l n pre over xs ys h), (nearest_long (reach (levels a) l) (n ∷ ys)).0)

-- the row itself, where the counts are the same
pub onto_row : (a : List Row) (l n : ℕ) (pre over : Link) (xs ys : List ℕ) → Onto a l n pre over xs ys → over.count ≡ pre.count → (over.row ≡ n) × (reach (levels a) l n ≡ true)
onto_row a l n pre over xs ys h e =
    let p = reach (levels a) l in
    let o = onto_over a l n pre over xs ys h in
    elim (cases_Bool (p n)) [
      | inl y ↦ (ap (λ (x : Link). x.row) (o ∙ ap (λ x. plus (pre.count - 1) x) (hit p n ys y)), y)
      | inr y ↦ absurd (omega (arith, onto_some a l n pre over xs ys h, ap (λ (x : Link). x.count) (o ∙ ap (λ x. plus (pre.count - 1) x) (miss p n ys y)), (nearest_long p ys).0))
    ]

pub onto_past : (a : List Row) (l n : ℕ) (pre over : Link) (xs ys : List ℕ) → Onto a l n pre over xs ys → over.count ≢ pre.count →
    record { row = over.row; count = over.count - pre.count } ≡ nearest (reach (levels a) l) ys
onto_past a l n pre over xs ys h ne =
    let p = reach (levels a) l in
    let o = onto_over a l n pre over xs ys h in
    elim (cases_Bool (p n)) [
      | inl y ↦ absurd (ne (omega (arith, onto_some a l n pre over xs ys h, ap (λ (x : Link). x.count) (o ∙ ap (λ x. plus (pre.count - 1) x) (hit p n ys y)))))
      | inr y ↦ (let q = o ∙ ap (λ x. plus (pre.count - 1) x) (miss p n ys y) in
          link_eq _ _ (ap (λ (x : Link). x.row) q) (omega (arith, onto_some a l n pre over xs ys h, ap (λ (x : Link). x.count) q)))
    ]

pub onto_next : (a : List Row) (l n : ℕ) (pre over next : Link) (xs ys : List ℕ) → Onto a l n pre over xs ys → over.count ≡ pre.count → next ≡ at (view Ahead l a) over.row →
    next ≡ nearest (reach (levels a) l) ys
unfolding Level
onto_next a l n pre over next xs ys h e f =
    let w = onto_row a l n pre over xs ys h e in
    f ∙ ap (λ r. at (view Ahead l a) r) w.0 ∙ h.right.0.0.0 w.1

-- at level 0 it is the row
pub onto_low : (a : List Row) (n : ℕ) (pre over : Link) (xs ys : List ℕ) → Onto a 0 n pre over xs ys → 0 < get_or (levels a) n 0 → over.row ≡ n
onto_low a n pre over xs ys h lt =
    let p = reach (levels a) 0 in
    ap (λ (x : Link). x.row) (onto_over a 0 n pre over xs ys h ∙ ap (λ x. plus (pre.count - 1) x) (hit p n ys (lt-ltb 0 (get_or (levels a) n 0) lt)))

pub leaves_row : (a₀ a : List Row) (l n : ℕ) (pre over : Link) (xs ys : List ℕ) → Onto a l n pre over xs ys → l ≡ 0 → levels a ≡ levels a₀ → Ring a₀ xs (n ∷ ys) → over.row ≡ n
leaves_row a₀ a l n pre over xs ys o z e r =
    onto_low a n pre over xs ys (subst (λ k. Onto a k n pre over xs ys) z o) (subst (λ x. 0 < get_or x n 0) (sym e) r.high_ys.0.0)

pub rising_onto : (a : List Row) (l n : ℕ) (pre next over : Link) (xs ys : List ℕ) → Sides a l n pre next xs ys → Level a l xs (n ∷ ys) → over ≡ at (view Ahead l a) pre.row → Onto a l n pre over xs ys
rising_onto a l n pre next over xs ys s h o = record { sound = sound_in (length (levels a)) n xs ys s.sound s.fresh; right = h; pre_is = s.pre_is; over_is = o }

-- looking a place up
pub ring_nears : (a : List Row) (t l : ℕ) (pre : Link) (xs us : List ℕ) → Ring a xs us → l + 1 ≡ t → t ≤ get_or (levels a) 0 0 → Stop (reach (levels a) t) xs pre → Nears (levels a) (view Ahead l a) l xs us pre
unfolding Level
ring_nears a t l pre xs us g e le s = (
  (g.right l (omega arith)).0.1,
  within _ xs us g.sound.0,
  stop_lower (reach (levels a) l) (reach (levels a) (l + 1)) (narrower (levels a) l) xs pre (subst (λ k. Stop (reach (levels a) k) xs pre) (sym e) s),
)

pub ring_onto : (a : List Row) (l n : ℕ) (pre over : Link) (xs ys : List ℕ) → Ring a xs (n ∷ ys) → l < get_or (levels a) 0 0 → pre ≡ nearest (reach (levels a) l) xs → over ≡ at (view Ahead l a) pre.row → Onto a l n pre over xs ys
ring_onto a l n pre over xs ys g lt is o = record { sound = g.sound; right = g.right l lt; pre_is = is; over_is = o }

-- at level 0 the row is met
pub onto_met : (a : List Row) (l n : ℕ) (pre over : Link) (xs ys : List ℕ) → Onto a l n pre over xs ys → 0 < get_or (levels a) n 0 → over.count ≢ pre.count → l ≢ 0
onto_met a l n pre over xs ys h lt ne z =
    let p = reach (levels a) 0 in
    let g = subst (λ k. Onto a k n pre over xs ys) z h in
    ne (omega (arith, onto_some a 0 n pre over xs ys g, ap (λ (x : Link). x.count) (onto_over a 0 n pre over xs ys g ∙ ap (λ x. plus (pre.count - 1) x) (hit p n ys (lt-ltb 0 (get_or (levels a) n 0) lt)))))

pub stop_again : (p : ℕ → Bool) (xs : List ℕ) (k : Link) → k ≡ nearest p xs → Stop p xs k
stop_again p xs k e = subst (λ x. Stop p xs x) (sym e) (stop_nearest p xs)
