-- What the types of the lent memory give: sizes that fit, and links that hold.
use Rattle.std.proofs.Common.{◌≡◌, ℕ, ◌+◌, ◌-◌, ◌<◌, ◌≤◌, List, ◌∷◌, length, get_or, sym, ap, ◌∙◌, subst, arith}
use Rattle.std.proofs.lemmas.List.{get_or_default}
use Rattle.order.specs.Order.{At}
use Rattle.links.specs.Cells.{cells, levels}
use Rattle.links.specs.Chain.{limit}
use Rattle.links.specs.Ring.{Holds, Ring, order}
use Rattle.links.proofs.Orders.{held, length_order, here_at, here_row}
use Rattle.skip_list.specs.declared.lent.Lent.{Lent}
use Rattle.skip_list.specs.Lent.{keys_of, size, used, kept}
use Rattle.skip_list.proofs.Picks.{Below, lower_below, lower_at, length_lower, length_picked, kept_at}

pub record Ready {A : Type 0} (s : Lent A) : Type 0 where
  pub few : size s ≤ 4096
  pub twice : length s.index.slots.now ≡ size s + size s
  pub sized : length (levels (cells s.links)) ≡ size s + 1
  pub holds : Holds (cells s.links) s.links.len

pub ready : {A : Type 0} (s : Lent A) → Ready s
ready s = record { few = s.few; twice = s.index.twice; sized = s.sized; holds = held _ _ s.links.holds }

module _ {A : Type 0} (s : Lent A) where
  pub rows_below : Below (size s) (used s)
  rows_below = lower_below (size s) _ (order (cells s.links) s.links.len) (λ r p. (p.0, subst (λ (n : ℕ). r < n) (ready s).sized p.1)) (ready s).holds.0.sound.1.0

  pub length_used : length (used s) ≡ s.links.len
  length_used = length_lower (order (cells s.links) s.links.len) ∙ length_order (cells s.links) s.links.len

  pub length_kept : length (kept s) ≡ s.links.len
  length_kept = length_picked (keys_of s) (used s) rows_below ∙ length_used

  -- the row of the links at a place
  pub linked_at : (i r : ℕ) → At (used s) i r → (i < s.links.len) × (r + 1 ≡ get_or (order (cells s.links) s.links.len) i 0)
  linked_at i r a =
      let lt : i < s.links.len = omega (arith, length_used, a.0) in
      let g = (here_at (cells s.links) s.links.len i lt (ready s).holds).0.sound.1.0.0.0 in
      let e : get_or (used s) i 0 ≡ r = get_or_default (used s) i 0 r a.0 ∙ a.1 in
      (lt, omega (arith, g, e, lower_at (order (cells s.links) s.links.len) i))

  -- a row of the order splits it there
  pub split_at : (i r : ℕ) → At (used s) i r →
      (xs : List ℕ) × ((ys : List ℕ) × (Ring (cells s.links) xs ((r + 1) ∷ ys) × (length xs + length ys + 2 < limit))) × (i ≡ length xs)
  split_at i r a =
      let q = linked_at i r a in
      let t = here_at (cells s.links) s.links.len i q.0 (ready s).holds in
      (_, (_, (here_row (cells s.links) s.links.len i (r + 1) q.0 (ready s).holds q.1, t.2)), t.1)

  pub row_low : (i r : ℕ) → At (used s) i r → r < size s
  row_low i r a = let q = split_at i r a in let g = q.1.1.0.sound.1.0.0.1 in omega (arith, g, (ready s).sized)

  -- the key at a place
  pub here : (i r : ℕ) (k : A) → i < s.links.len → r ≡ get_or (order (cells s.links) s.links.len) i 0 → get_or (keys_of s) (r - 1) k ≡ k → At (kept s) i k
  here i r k lt e at =
      let low : i < length (used s) = omega (arith, length_used) in
      let q : get_or (used s) i 0 ≡ r - 1 = lower_at (order (cells s.links) s.links.len) i ∙ ap (λ (x : ℕ). x - 1) (sym e) in
      kept_at (keys_of s) (used s) i (r - 1) k rows_below (low, get_or_default (used s) i (r - 1) 0 low ∙ q) at

  -- the row at a place, as the index numbers it
  pub row_there : (i r : ℕ) → i < s.links.len → r ≡ get_or (order (cells s.links) s.links.len) i 0 → (0 < r) × (r ≤ size s) × At (used s) i (r - 1)
  row_there i r lt e =
      let q = (here_at (cells s.links) s.links.len i lt (ready s).holds).0.sound.1.0.0 in
      let low : i < length (used s) = omega (arith, length_used) in
      let same : get_or (used s) i 0 ≡ r - 1 = lower_at (order (cells s.links) s.links.len) i ∙ ap (λ (x : ℕ). x - 1) (sym e) in
      (subst (λ (x : ℕ). 0 < x) (sym e) q.0, subst (λ (x : ℕ). x ≤ size s) (sym e) (omega (arith, q.1, (ready s).sized)), (low, get_or_default (used s) i (r - 1) 0 low ∙ same))
