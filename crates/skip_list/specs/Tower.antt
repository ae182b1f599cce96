-- The levels of the keys, the head's height, and the links that follow from order, levels and height alone.
-- The head is at position 0, the key at place i at position i + 1, and the end at the length plus 1.
use Rattle.std.specs.Prelude.{◌≡◌, ℕ, zero, suc, ◌+◌, ◌<◌, ◌≤◌, cond, List, [], ◌∷◌, map, reverse, take, drop, Some, None, Ok, Err, Option, Result, nat_lt, slice_index}
use Rattle.std.specs.List.{remove}
use Rattle.order.specs.Order.{At, Absent}
use Rattle.links.specs.declared.Link.{Link}
use Rattle.links.specs.Cells.{cells, levels}
use Rattle.links.specs.Ring.{order}
use Rattle.skip_list.specs.declared.lent.Lent.{Lent}
use Rattle.skip_list.specs.Lent.{keys_of, kept}
use Rattle.skip_list.specs.declared.report.KeyLink.{KeyLink}
use Rattle.skip_list.specs.declared.report.KeyLinks.{KeyLinks}
use Rattle.skip_list.specs.declared.fault.ListFault.{ListFault}
use Rattle.skip_list.specs.declared.fault.ListFault.TheVariants.{BadMemory, NoKey, NoLevel}

-- the level of each row, in sequence
abbrev pub high : List ℕ → List ℕ → List ℕ
high ls os = map (λ r. slice_index ls r) os

module _ {A : Type 0} (s : Lent A) where
  -- the levels of the keys of the order, in sequence
  abbrev pub highs : List ℕ
  highs = high (levels (cells s.links)) (order (cells s.links) s.links.len)

  abbrev pub height : ℕ
  height = slice_index (levels (cells s.links)) 0

-- the key k, which stood at place i, was taken out
pub record Taken {A : Type 0} (s : Lent A) (i : ℕ) (k : A) (t : Lent A) : Type 0 where
  pub stood : At (kept s) i k
  pub keys_stay : keys_of t ≡ keys_of s
  pub order_left : kept t ≡ remove (kept s) i
  pub levels_left : highs t ≡ remove (highs s) i
  pub height_stays : height t ≡ height s

-- the first key of a list
abbrev pub first_in : {A : Type 0} → List A → Option A
first_in [] = None
first_in (x ∷ xs) = Some x

-- the key of a row: row 0 is the head and the end, and has none
abbrev pub key_of : {A : Type 0} → List A → ℕ → Option A
key_of keys zero = None
key_of keys (suc r) = first_in (drop r keys)

-- a link between rows, as a link between keys
abbrev pub key_link : {A : Type 0} → List A → Link → KeyLink A
key_link keys k = record { key = key_of keys k.row; count = k.count }

abbrev pub further : {A : Type 0} → KeyLink A → KeyLink A
further k = record { key = k.key; count = 1 + k.count }

-- the link to the first key that reaches level l, of some keys with their levels: past the last key, to none
abbrev pub nearest_key : {A : Type 0} → ℕ → List A → List ℕ → KeyLink A
nearest_key l [] vs = record { key = None; count = 1 }
nearest_key l (x ∷ xs) [] = record { key = None; count = 1 }
nearest_key l (x ∷ xs) (v ∷ vs) = cond (nat_lt l v) (record { key = Some x; count = 1 }) (further (nearest_key l xs vs))

-- the link ahead from position p, and the link back from position i + 1
abbrev pub link_ahead : {A : Type 0} → List A → List ℕ → ℕ → ℕ → KeyLink A
link_ahead xs vs l p = nearest_key l (drop p xs) (drop p vs)

abbrev pub link_back : {A : Type 0} → List A → List ℕ → ℕ → ℕ → KeyLink A
link_back xs vs l i = nearest_key l (reverse (take i xs)) (reverse (take i vs))

-- the links of the head, and of the key at place i
abbrev pub head_links : {A : Type 0} → List A → List ℕ → ℕ → KeyLinks A
head_links xs vs l = record { ahead = link_ahead xs vs l 0; back = record { key = None; count = 0 } }

abbrev pub links_at : {A : Type 0} → List A → List ℕ → ℕ → ℕ → KeyLinks A
links_at xs vs l i = record { ahead = link_ahead xs vs l (suc i); back = link_back xs vs l i }

-- what a link report answers for the head, and for a key
abbrev pub HeadLinks : {A : Type 0} → List A → List ℕ → ℕ → ℕ → Result (KeyLinks A) ListFault → Type 0
HeadLinks xs vs h l (Ok r) = (l < h) × (r ≡ head_links xs vs l)
HeadLinks xs vs h l (Err BadMemory) = ⊥
HeadLinks xs vs h l (Err NoKey) = ⊥
HeadLinks xs vs h l (Err NoLevel) = h ≤ l

abbrev pub LinksOf : {A : Type 0} → List A → List ℕ → A → ℕ → Result (KeyLinks A) ListFault → Type 0
LinksOf xs vs x l (Ok r) = (i : ℕ) × At xs i x × (l < slice_index vs i) × (r ≡ links_at xs vs l i)
LinksOf xs vs x l (Err BadMemory) = ⊥
LinksOf xs vs x l (Err NoKey) = Absent xs x
LinksOf xs vs x l (Err NoLevel) = (i : ℕ) × At xs i x × (slice_index vs i ≤ l)

abbrev pub Linked : {A : Type 0} → List A → List ℕ → ℕ → Option A → ℕ → Result (KeyLinks A) ListFault → Type 0
Linked xs vs h None l r = HeadLinks xs vs h l r
Linked xs vs h (Some x) l r = LinksOf xs vs x l r

-- what a level report answers
abbrev pub Leveled : {A : Type 0} → List A → List ℕ → A → Option ℕ → Type 0
Leveled xs vs x (Some v) = (i : ℕ) × At xs i x × (v ≡ slice_index vs i)
Leveled xs vs x None = Absent xs x
