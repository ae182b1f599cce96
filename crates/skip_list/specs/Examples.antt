-- Worked cases: levels from draws, and the links of a level while keys come and go.
use Rattle.std.specs.Prelude.{◌≡◌, ℕ, List, [], ◌∷◌, Some, None}
use Rattle.order.specs.Deeds.{Deed, order_after, out, put}
use Rattle.skip_list.specs.History.{height_after, levels_after}
use Rattle.skip_list.specs.Level.{level_of}
use Rattle.skip_list.specs.Tower.{head_links, links_at}

abbrev pub LevelCases : Type 0
LevelCases = (level_of 4294967295 ≡ 1) × (level_of 1073741824 ≡ 1) × (level_of 1073741823 ≡ 2) × (level_of 4 ≡ 15) × (level_of 3 ≡ 16) × (level_of 0 ≡ 16)

-- a, b and c pushed with the draws 2^30, 0 and 4
abbrev pub pushed : ℕ → ℕ → ℕ → List (Deed ℕ)
pushed a b c = put 2 c 4 ∷ put 1 b 0 ∷ put 0 a 1073741824 ∷ []

-- The head of a new list links to none with 1 at level 0, and its height is 1. Of the three keys,
-- at level 15 the head links to b with 2, and b to none with 2; once b is removed the head links to none with 3, and the height is still 16
pub record LinkCases (a b c : ℕ) : Type 0 where
  pub new_head : (head_links {A = ℕ} (order_after []) (levels_after {A = ℕ} []) 0).ahead ≡ record { key = None; count = 1 }
  pub new_height : height_after {A = ℕ} [] ≡ 1
  pub to_b : (head_links (order_after (pushed a b c)) (levels_after (pushed a b c)) 15).ahead ≡ record { key = Some b; count = 2 }
  pub from_b : (links_at (order_after (pushed a b c)) (levels_after (pushed a b c)) 15 1).ahead ≡ record { key = None; count = 2 }
  pub without_b : (head_links (order_after (out 1 ∷ pushed a b c)) (levels_after (out 1 ∷ pushed a b c)) 15).ahead ≡ record { key = None; count = 3 }
  pub height_stays : height_after (out 1 ∷ pushed a b c) ≡ 16
