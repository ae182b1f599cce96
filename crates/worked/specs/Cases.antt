-- Worked cases of the row list, of every ordered set and of the book, by the definitions that their contracts cite.
--     Only allows r w     the answer r, leaving w, is allowed, and nothing else is
use Rattle.std.specs.Prelude.{◌≡◌, ℕ, ◌<◌, ◌≤◌, [], ◌∷◌, ◌++◌, length, Some, Ok, Err}
use Rattle.std.specs.List.{remove}
use Rattle.order.specs.Faults.{set_number}
use Rattle.order.specs.Order.{Meaning, ordered, At, Absent, Stands, Distinct, InsertsAt, InsertsAfter}
use Rattle.order.specs.declared.fault.SetFault.TheVariants.{Present, PastEnd, Full}
use Rattle.layers.specs.Splice.{Splices}
use Rattle.skip_list.specs.Examples.{LevelCases, LinkCases}
use Rattle.book.specs.Books.{Answers, Moves}
use Rattle.book.specs.Faults.{fault_number}
use Rattle.book.specs.Pages.{Pages, approach, key, reordered}
use Rattle.book.specs.Worked.{NineThenFour}
use Rattle.book.specs.declared.fault.BookFault.TheVariants.{Rules}

abbrev pub Only : {R M : Type 0} → (R → M → Type 0) → R → M → Type 0
Only {R} {M} allows r w = allows r w × ((s : R) (u : M) → allows s u → (s ≡ r) × (u ≡ w))

-- insertions and a splice, for keys of any type
pub record SetCases (K : Type 0) : Type 0 where
  -- at length 2, with room, an absent key goes in at place 2, behind the two
  pub at_end : (v : Meaning K) (x : K) → length v.order ≡ 2 → 2 < v.room → Absent v.order x
      → Only (InsertsAt v 2 x) (Ok tt) (ordered v (v.order ++ x ∷ []))
  -- at length 2, place 3 is refused under number 3
  pub past_end : (v : Meaning K) (x : K) → length v.order ≡ 2 → Absent v.order x
      → Only (InsertsAt v 3 x) (Err PastEnd) v × (set_number PastEnd ≡ 3)
  -- into the order a b c, with room for six, a splice of x b y at 0 answers 2 and leaves x a b y c
  pub spliced : (v : Meaning K) (a b c x y : K) → v.order ≡ a ∷ b ∷ c ∷ [] → Distinct (x ∷ a ∷ b ∷ y ∷ c ∷ []) → 6 ≤ v.room
      → Only (Splices v 0 (x ∷ b ∷ y ∷ []) 3) (Ok 2) (ordered v (x ∷ a ∷ b ∷ y ∷ c ∷ []))
  -- on a full set a present key is refused under number 1, at any place
  pub present : (v : Meaning K) (i : ℕ) (x : K) → length v.order ≡ v.room → Stands v.order x
      → Only (InsertsAt v i x) (Err Present) v × (set_number Present ≡ 1)
  -- and so after any key
  pub present_after : (v : Meaning K) (p x : K) → length v.order ≡ v.room → Stands v.order x
      → Only (InsertsAfter v p x) (Err Present) v
  -- on a full set an absent key is refused under number 4, at a place within the length
  pub full : (v : Meaning K) (i : ℕ) (x : K) → length v.order ≡ v.room → Absent v.order x → i ≤ length v.order
      → Only (InsertsAt v i x) (Err Full) v × (set_number Full ≡ 4)
  -- and so after a key that stands
  pub full_after : (v : Meaning K) (p x : K) → length v.order ≡ v.room → Absent v.order x → Stands v.order p
      → Only (InsertsAfter v p x) (Err Full) v

-- a book's moves and decisions
pub record BookCases : Type 0 where
  -- of two rules, the one at place i moves to place 1, behind the other
  pub moved : (v : Pages) (n i : ℕ) → Distinct v.numbers.order → length v.numbers.order ≡ 2 → n ≤ 255 → At v.numbers.order i (key n)
      → Only (λ r w. Moves n 1 r v w) (Ok 1) (reordered v (remove v.numbers.order i ++ key n ∷ []))
  -- with two rules, a move to place 2 is refused under number 3
  pub moved_past : (v : Pages) (n : ℕ) → length v.numbers.order ≡ 2 → n ≤ 255 → Stands v.numbers.order (key n)
      → Only (λ r w. Moves n 2 r v w) (Err (Rules PastEnd)) v × (fault_number (Rules PastEnd) ≡ 3)
  -- with rule 9 before rule 4, turnout 12 and class F, which is byte 70, are decided by rule 9 and route 7
  pub decided : (v : Pages) → NineThenFour v → Only (λ r w. Answers (approach 12 70) r v w) (Ok (Some (9, 7))) v

pub record WorkedCases (K : Type 0) : Type 0 where
  -- the draws 4294967295 and 2^30 give level 1, 2^30 - 1 gives 2, 4 gives 15, 3 and 0 give 16
  pub levels : LevelCases
  -- of a, b and c, pushed with the draws 2^30, 0 and 4, at level 15 the head links to b with 2, and b to none with 2;
  -- once b is removed the head links to none with 3 there, and the height is 16
  pub links : (a b c : ℕ) → LinkCases a b c
  -- keys go in at the end, are spliced, and are refused past the end and on a full set
  pub sets : SetCases K
  -- a rule moves or is refused, and the first of two rules decides
  pub books : BookCases
