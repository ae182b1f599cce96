-- The whole insertion: the levels below l have the new row, the others not yet.
use Rattle.std.proofs.Common.{◌≡◌, ℕ, ◌+◌, ◌<◌, ◌≤◌, ◌≢◌, List, [], ◌∷◌, length, get_or, sym, refl, ap, ◌∙◌, subst, inl, inr, eq-or-lt_of_le, arith, le-ltb, lt-ltb}
use Rattle.links.specs.declared.Link.{Link}
use Rattle.links.specs.declared.Row.{Row}
use Rattle.links.specs.declared.Way.TheVariants.{Ahead, Back}
use Rattle.links.specs.Cell.{levels, view}
use Rattle.links.specs.Chain.{limit, nearest, Each, Toward, Right, reach, at, Sound, Half, Fresh, Within, Leads}
use Rattle.links.specs.Ring.{Level, Only, Sides, Tall, Ring, Place, first}
use Rattle.links.proofs.Chains.{miss, each_map, each_both}

-- the levels below l have vs before the split, the others still us
pub record Midway (a₀ a : List Row) (l n : ℕ) (pre next : Link) (xs ys us vs : List ℕ) : Type 0 where
  pub levels_same : levels a ≡ levels a₀
  pub sides : Sides a l n pre next xs ys
  pub done : (m : ℕ) → m < l → Level a m xs vs
  pub left : (m : ℕ) → l ≤ m → m < get_or (levels a₀) 0 0 → Level a m xs us

-- a write at one level leaves the others
pub level_kept : (a b : List Row) (l m : ℕ) (xs ys : List ℕ) → Only a b l → m ≢ l → Level a m xs ys → Level b m xs ys
unfolding Level
level_kept a b l m xs ys o ne h = (
  subst (λ x. Right (reach (levels b) m) (at x) xs ys) (sym (o.other Ahead m ne)) (subst (λ x. Right (reach x m) (at (view Ahead m a)) xs ys) (sym o.levels_same) h.0),
  subst (λ x. Right (reach (levels b) m) (at x) ys xs) (sym (o.other Back m ne)) (subst (λ x. Right (reach x m) (at (view Back m a)) ys xs) (sym o.levels_same) h.1),
)

pub first_leads : (ls : List ℕ) (f : ℕ → Link) (near xs : List ℕ) → Each (Tall ls) xs → Toward (reach ls 0) f near xs → f (first xs) ≡ nearest (reach ls 0) near
first_leads ls f near [] h t = t
first_leads ls f near (r ∷ xs) h t = t.0 (lt-ltb 0 (get_or ls r 0) h.0.0)

pub within : (size : ℕ) (xs ys : List ℕ) → Half size xs ys → Each (Within size) xs
within size xs ys h = each_map (λ r. (0 < r) × (r < size) × Each (λ y. y ≢ r) ys) (Within size) (λ r t. (t.0, t.1)) xs h.0

-- what the climbs need
pub leads_back : (a b : List Row) (l n : ℕ) (pre next : Link) (xs ys vs : List ℕ) → Sides a l n pre next xs ys → levels b ≡ levels a → Level b l xs vs →
    Leads (levels b) (view Back l b) l xs pre
unfolding Level
leads_back a b l n pre next xs ys vs s e h = (
  h.1.0,
  subst (λ x. Each (Within (length x)) xs) (sym e) (within _ xs ys s.sound.0),
  omega (arith, s.few),
  subst (λ x. pre ≡ nearest (reach x l) xs) (sym e) s.pre_is,
)

-- level l once the row is threaded into it, or out of it
pub threaded : (a₀ a b : List Row) (l n : ℕ) (pre next : Link) (xs ys us vs : List ℕ) → Midway a₀ a l n pre next xs ys us vs → l < get_or (levels a₀) 0 0 →
    (Sides a l n pre next xs ys → Level a l xs us → Level b l xs vs) → Level b l xs vs
threaded a₀ a b l n pre next xs ys us vs m lt put = put m.sides (m.left l (omega arith) lt)

pub midway_step : (a₀ a b : List Row) (l n : ℕ) (pre next pre' next' : Link) (xs ys us vs : List ℕ) → Midway a₀ a l n pre next xs ys us vs →
    Only a b l → Level b l xs vs → pre' ≡ nearest (reach (levels b) (l + 1)) xs → next' ≡ nearest (reach (levels b) (l + 1)) ys →
    Midway a₀ b (l + 1) n pre' next' xs ys us vs
midway_step a₀ a b l n pre next pre' next' xs ys us vs m o h e f = record {
  levels_same = o.levels_same ∙ m.levels_same;
  sides = record {
    sound = subst (λ x. Sound (length x) xs ys) (sym o.levels_same) m.sides.sound;
    fresh = subst (λ x. Fresh (length x) n xs ys) (sym o.levels_same) m.sides.fresh;
    few = m.sides.few;
    pre_is = e;
    suc_is = f;
  };
  done = (λ k lt. elim (eq-or-lt_of_le {n = k} {m = l} (omega arith)) [
    | inl y ↦ subst (λ j. Level b j xs vs) (sym y) h
    | inr y ↦ level_kept a b l k xs vs o (omega arith) (m.done k y)
  ]);
  left = (λ k le lt. level_kept a b l k xs us o (omega arith) (m.left k (omega arith) lt));
}

-- the row stands in the order
pub sound_in : (size n : ℕ) (xs ys : List ℕ) → Sound size xs ys → Fresh size n xs ys → Sound size xs (n ∷ ys)
sound_in size n xs ys s f = (
  (
    each_both (λ r. (0 < r) × (r < size) × Each (λ y. y ≢ r) ys) (λ r. r ≢ n) (λ r. (0 < r) × (r < size) × Each (λ y. y ≢ r) (n ∷ ys))
        (λ r t ne. (t.0, t.1, ((λ e. ne (sym e)), t.2))) xs s.0.0 f.2,
    s.0.1,
  ),
  (
    (
      (f.0, f.1, f.2),
      each_both (λ r. (0 < r) × (r < size) × Each (λ y. y ≢ r) xs) (λ r. r ≢ n) (λ r. (0 < r) × (r < size) × Each (λ y. y ≢ r) xs) (λ r t _. t) ys s.1.0 f.3,
    ),
    (f.3, s.1.1),
  ),
)

pub sound_out : (size n : ℕ) (xs ys : List ℕ) → Sound size xs (n ∷ ys) → Sound size xs ys
sound_out size n xs ys s = (
  (each_map (λ r. (0 < r) × (r < size) × Each (λ y. y ≢ r) (n ∷ ys)) (λ r. (0 < r) × (r < size) × Each (λ y. y ≢ r) ys) (λ r t. (t.0, t.1, t.2.1)) xs s.0.0, s.0.1),
  (s.1.0.1, s.1.1.1),
)

pub fresh_out : (size n : ℕ) (xs ys : List ℕ) → Sound size xs (n ∷ ys) → Fresh size n xs ys
fresh_out size n xs ys s = (s.1.0.0.0, s.1.0.0.1, s.1.0.0.2, s.1.1.0)

pub midway_ends : (a₀ a : List Row) (l after n : ℕ) (pre next : Link) (xs ys : List ℕ) → get_or (levels a₀) 0 0 ≤ l → Place a₀ after n xs ys → Midway a₀ a l n pre next xs ys ys (n ∷ ys) →
    Ring a xs (n ∷ ys)
midway_ends a₀ a top after n pre next xs ys le p m =
    let e = sym m.levels_same in
    record {
      sound = sound_in (length (levels a)) n xs ys m.sides.sound m.sides.fresh;
      head_tall = subst (λ x. Tall x 0) e p.ring.head_tall;
      high_xs = subst (λ x. Each (Tall x) xs) e p.ring.high_xs;
      high_ys = (subst (λ x. Tall x n) e p.high, subst (λ x. Each (Tall x) ys) e p.ring.high_ys);
      right = (λ l lt. m.done l (omega (arith, ap (λ x. get_or x 0 0) e)));
    }

pub leaving_ends : (a₀ a : List Row) (l n : ℕ) (pre next : Link) (xs ys : List ℕ) → get_or (levels a₀) 0 0 ≤ l → Ring a₀ xs (n ∷ ys) → Midway a₀ a l n pre next xs ys (n ∷ ys) ys →
    Ring a xs ys
leaving_ends a₀ a top n pre next xs ys le r m =
    let e = sym m.levels_same in
    record {
      sound = m.sides.sound;
      head_tall = subst (λ x. Tall x 0) e r.head_tall;
      high_xs = subst (λ x. Each (Tall x) xs) e r.high_xs;
      high_ys = subst (λ x. Each (Tall x) ys) e r.high_ys.1;
      right = (λ l lt. m.done l (omega (arith, ap (λ x. get_or x 0 0) e)));
    }

-- what lies ahead is read off the link over the split
abbrev pub Rising : (a₀ a : List Row) (l n : ℕ) (pre : Link) (xs ys us vs : List ℕ) → Type 0
Rising a₀ a l n pre xs ys us vs = Midway a₀ a l n pre (nearest (reach (levels a) l) ys) xs ys us vs

pub sinking_starts : (a : List Row) (n : ℕ) (pre : Link) (xs ys : List ℕ) → Ring a xs (n ∷ ys) → length xs + length ys + 2 < limit → pre ≡ at (view Back 0 a) n → Rising a a 0 n pre xs ys (n ∷ ys) ys
unfolding Level
sinking_starts a n pre xs ys r few e = record {
  levels_same = refl;
  sides = record {
    sound = sound_out (length (levels a)) n xs ys r.sound;
    fresh = fresh_out (length (levels a)) n xs ys r.sound;
    few = few;
    pre_is = e ∙ (r.right 0 r.head_tall.0).1.1.0 (lt-ltb 0 (get_or (levels a) n 0) r.high_ys.0.0);
    suc_is = refl;
  };
  done = (λ m lt. absurd (omega arith));
  left = (λ m _ lt. r.right m lt);
}

pub sides_with : (a : List Row) (l n : ℕ) (pre next next' : Link) (xs ys : List ℕ) → Sides a l n pre next xs ys → next' ≡ nearest (reach (levels a) l) ys → Sides a l n pre next' xs ys
sides_with a l n pre next next' xs ys s e = record { sound = s.sound; fresh = s.fresh; few = s.few; pre_is = s.pre_is; suc_is = e }

-- above the highest level there is only the head
pub highest : (ls : List ℕ) (h : ℕ) (xs : List ℕ) → h ≡ get_or ls 0 0 → Each (Tall ls) xs → (nearest (reach ls h) xs).count ≡ length xs + 1
highest ls h [] e t = refl
highest ls h (r ∷ xs) e t = ap (λ (k : Link). k.count) (miss (reach ls h) r xs (le-ltb h (get_or ls r 0) (omega (arith, t.0.2)))) ∙ ap (λ k. 1 + k) (highest ls h xs e t.1) ∙ omega arith

pub risen : (a₀ a : List Row) (l n : ℕ) (pre : Link) (xs ys : List ℕ) → Rising a₀ a l n pre xs ys (n ∷ ys) ys → l ≡ get_or (levels a₀) 0 0 → Ring a₀ xs (n ∷ ys) → pre.count ≡ length xs + 1
risen a₀ a l n pre xs ys m z r =
    ap (λ (k : Link). k.count) m.sides.pre_is ∙ highest (levels a) l xs (z ∙ ap (λ x. get_or x 0 0) (sym m.levels_same)) (subst (λ x. Each (Tall x) xs) (sym m.levels_same) r.high_xs)

-- at the end, both sides are known
abbrev pub Ending : (a₀ a : List Row) (l n : ℕ) (xs : List ℕ) → Type 0
Ending a₀ a l n xs = Midway a₀ a l n (nearest (reach (levels a) l) xs) (record { row = 0; count = 1 }) xs [] [] (n ∷ [])

pub ending_starts : (a : List Row) (after n : ℕ) (xs : List ℕ) → Place a after n xs [] → Ending a a 0 n xs
ending_starts a after n xs p = record {
  levels_same = refl;
  sides = record { sound = p.ring.sound; fresh = p.fresh; few = p.few; pre_is = refl; suc_is = refl };
  done = (λ m lt. absurd (omega arith));
  left = (λ m _ lt. p.ring.right m lt);
}

pub ending_sides : (a₀ a : List Row) (l n : ℕ) (pre : Link) (xs : List ℕ) → Ending a₀ a l n xs → l < get_or (levels a₀) 0 0 → pre ≡ at (view Back l a) 0 → Sides a l n pre (record { row = 0; count = 1 }) xs []
unfolding Level
ending_sides a₀ a l n pre xs m lt e = record { sound = m.sides.sound; fresh = m.sides.fresh; few = m.sides.few; pre_is = e ∙ (m.left l (omega arith) lt).1.1; suc_is = refl }
