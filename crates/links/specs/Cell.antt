-- Rows as cells of links: what one cell holds, and what a write of one cell leaves.
use Rattle.std.specs.Prelude.{◌≡◌, ℕ, ◌<◌, ◌≢◌, List, [], ◌∷◌, map, slice_index_or, slice_set}
use Rattle.links.specs.declared.Link.{Link}
use Rattle.links.specs.declared.LevelLinks.{LevelLinks}
use Rattle.links.specs.declared.Links.{Links}
use Rattle.links.specs.declared.Row.{Row}
use Rattle.links.specs.declared.Grid.{Grid}
use Rattle.links.specs.declared.Way.{Way}
use Rattle.links.specs.declared.Way.TheVariants.{Ahead, Back}

-- the link of a row that is in no order
abbrev pub none : Link
none = record { row = 0; count = 0 }

-- what stands for the links of a level that a row has not, and for a row past the last
abbrev pub unlinked : LevelLinks
unlinked = record { ahead = none; back = none }

abbrev pub nolinks : Links
nolinks = record { at = [] }

abbrev pub blank : Row
blank = record { level = 0; links = nolinks }

-- the link that leads the given way
abbrev pub toward : Way → LevelLinks → Link
toward Ahead p = p.ahead
toward Back p = p.back

-- the two links with one of them changed
abbrev pub with_toward : Way → Link → LevelLinks → LevelLinks
with_toward Ahead k p = record { ahead = k; back = p.back }
with_toward Back k p = record { ahead = p.ahead; back = k }

-- a row's link of level l
abbrev pub link_of : Way → ℕ → Row → Link
link_of w l r = toward w (slice_index_or r.links.at l unlinked)

-- a row with one link changed
abbrev pub with_link : Way → ℕ → Link → Row → Row
with_link w l k r = record { level = r.level; links = record { at = slice_set r.links.at l (with_toward w k (slice_index_or r.links.at l unlinked)) } }

-- a row of level v that has the link k at every level, both ways
pub record Throughout (r : Row) (v : ℕ) (k : Link) : Type 0 where
  pub level_is : r.level ≡ v
  pub links_are : (w : Way) (l : ℕ) → l < 16 → link_of w l r ≡ k

-- the other way
abbrev pub flip : Way → Way
flip Ahead = Back
flip Back = Ahead

-- the rows by number: the head is row 0
abbrev pub laid : Grid → List Row
laid g = g.head ∷ g.rows.now

-- the links of one level in one direction, row by row
unfoldable pub view : Way → ℕ → List Row → List Link
view w l rows = map (link_of w l) rows

-- how many levels each row has
unfoldable pub levels : List Row → List ℕ
levels rows = map (λ (r : Row). r.level) rows

-- b is a but for one link
pub record Wrote (a b : List Row) (r : ℕ) (w : Way) (l : ℕ) (k : Link) : Type 0 where
  pub same : view w l b ≡ slice_set (view w l a) r k
  pub back : view (flip w) l b ≡ view (flip w) l a
  pub other : (v : Way) (m : ℕ) → m ≢ l → view v m b ≡ view v m a
  pub levels_same : levels b ≡ levels a
