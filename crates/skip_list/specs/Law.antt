-- The law of one level: which keys its kept links visit, and what their counts are.
use Rattle.std.specs.Prelude.{◌≡◌, ℕ, suc, ◌+◌, ◌-◌, ◌<◌, ◌≤◌, cond, List, [], ◌∷◌, ◌++◌, map, reverse, length, Some, None, Option, nat_lt, slice_index}
use Rattle.order.specs.Order.{At}
use Rattle.links.specs.declared.Way.{Way}
use Rattle.links.specs.declared.Way.TheVariants.{Ahead, Back}
use Rattle.links.specs.declared.Link.{Link}
use Rattle.links.specs.Cells.{cells, view}
use Rattle.links.specs.Chain.{at}
use Rattle.links.specs.Report.{total}
use Rattle.links.specs.Ring.{order, walk}
use Rattle.skip_list.specs.declared.lent.Lent.{Lent}
use Rattle.skip_list.specs.declared.report.KeyLink.{KeyLink}
use Rattle.skip_list.specs.Lent.{keys_of}
use Rattle.skip_list.specs.Tower.{key_link, key_of, link_ahead, link_back}

-- the keys that reach level l, in sequence
abbrev pub reaching : {A : Type 0} → ℕ → List A → List ℕ → List A
reaching l [] vs = []
reaching l (x ∷ xs) [] = []
reaching l (x ∷ xs) (v ∷ vs) = cond (nat_lt l v) (x ∷ reaching l xs vs) (reaching l xs vs)

module _ {A : Type 0} (s : Lent A) (w : Way) (l : ℕ) where
  -- the link that a row keeps
  abbrev pub link_in : ℕ → Link
  link_in = at (view w l (cells s.links))

  -- what n links of the level lead to, one after the other: ahead from the head, or back from the end
  abbrev pub visited : ℕ → List (Option A)
  visited n = map (key_of (keys_of s)) (walk link_in n 0)

  -- the link that is kept at a position; the head's row also keeps the links of the end
  abbrev pub link_held : ℕ → KeyLink A
  link_held p = key_link (keys_of s) (link_in (slice_index (0 ∷ order (cells s.links) s.links.len) p))

-- what a link names stands at position q: a key, or the end ahead, or the head behind
abbrev pub NamesAhead : {A : Type 0} → List A → ℕ → Option A → Type 0
NamesAhead xs q (Some x) = (0 < q) × At xs (q - 1) x
NamesAhead xs q None = q ≡ length xs + 1

abbrev pub NamesBack : {A : Type 0} → List A → ℕ → Option A → Type 0
NamesBack xs q (Some x) = (0 < q) × At xs (q - 1) x
NamesBack xs q None = q ≡ 0

-- each key as a thing that is visited, and then none
abbrev pub and_none : {A : Type 0} → List A → List (Option A)
and_none xs = map Some xs ++ None ∷ []

-- The law of level l, over the keys xs in order with their levels vs.
pub record LevelLaw {A : Type 0} (s : Lent A) (xs : List A) (vs : List ℕ) (l : ℕ) : Type 0 where
  -- the forward links visit exactly the keys that reach the level, in order; the backward links visit them in reverse
  pub forward : visited s Ahead l (suc (length (reaching l xs vs))) ≡ and_none (reaching l xs vs)
  pub backward : visited s Back l (suc (length (reaching l xs vs))) ≡ and_none (reverse (reaching l xs vs))
  -- the forward counts total the length plus one
  pub totals : total (link_in s Ahead l) (length (reaching l xs vs)) 0 ≡ length xs + 1
  -- the links kept by the head, by a key that reaches the level, and for the end are those that order and levels give
  pub from_head : link_held s Ahead l 0 ≡ link_ahead xs vs l 0
  pub from_key : (i : ℕ) → i < length xs → l < slice_index vs i → link_held s Ahead l (suc i) ≡ link_ahead xs vs l (suc i)
  pub back_from_key : (i : ℕ) → i < length xs → l < slice_index vs i → link_held s Back l (suc i) ≡ link_back xs vs l i
  pub back_from_end : link_held s Back l (suc (length xs)) ≡ link_back xs vs l (length xs)
  -- each count is the difference of the positions of its ends
  pub counts_ahead : (p : ℕ) → p ≤ length xs → NamesAhead xs (p + (link_ahead xs vs l p).count) (link_ahead xs vs l p).key
  pub counts_back : (i : ℕ) → i ≤ length xs → ((link_back xs vs l i).count ≤ suc i) × NamesBack xs (suc i - (link_back xs vs l i).count) (link_back xs vs l i).key
