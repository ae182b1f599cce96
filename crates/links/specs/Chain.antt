-- One level of links along a list of rows, in one direction. A place in the list is a split: the rows behind it, the nearest first,
-- and the rows before it. Row 0 is the head, and, since the links of a level run in a ring, the end too.
use Rattle.std.specs.Prelude.{◌≡◌, ℕ, ◌+◌, ◌<◌, Bool, true, cond, ◌≢◌, ◌⊎◌, List, [], ◌∷◌, length, nat_lt, slice_index, slice_index_or}
use Rattle.links.specs.declared.Link.{Link}

-- counts stay below this
abbrev pub limit : ℕ
limit = 65536

-- the link n steps longer
abbrev pub plus : ℕ → Link → Link
plus n k = record { row = k.row; count = n + k.count }

-- the link to what stands next to a place where no row stands: the head, or the end
abbrev pub nearby : Link
nearby = record { row = 0; count = 1 }

-- the nearest row of a list that passes the test, with the number of steps to it: past the last one, row 0
abbrev pub nearest : (ℕ → Bool) → List ℕ → Link
nearest p [] = nearby
nearest p (r ∷ rs) = cond (p r) (record { row = r; count = 1 }) (plus 1 (nearest p rs))

abbrev pub Each : (ℕ → Type 0) → List ℕ → Type 0
Each P [] = Unit {0}
Each P (r ∷ rs) = P r × Each P rs

abbrev pub Distinct : List ℕ → Type 0
Distinct [] = Unit {0}
Distinct (r ∷ rs) = Each (λ x. x ≢ r) rs × Distinct rs

-- each row that passes holds the link to the nearest one beyond it
abbrev pub Away : (ℕ → Bool) → (ℕ → Link) → List ℕ → Type 0
Away p f [] = Unit {0}
Away p f (r ∷ far) = (p r ≡ true → f r ≡ nearest p far) × Away p f far

-- each row of `far` that passes, and row 0 at its end, holds the link to the nearest one on the way back, and on into `near`
abbrev pub Toward : (ℕ → Bool) → (ℕ → Link) → List ℕ → List ℕ → Type 0
Toward p f near [] = f 0 ≡ nearest p near
Toward p f near (r ∷ far) = (p r ≡ true → f r ≡ nearest p near) × Toward p f (r ∷ near) far

-- the links of one direction are right, at a split of the list
abbrev pub Right : (ℕ → Bool) → (ℕ → Link) → List ℕ → List ℕ → Type 0
Right p f behind before = Away p f before × Toward p f before behind

-- a link over two others that meet at a gap of n rows less one: n = 0 where they meet at a place between rows
abbrev pub Joins : Link → Link → Link → Type 0
Joins k a b = (k.row ≡ b.row) × (k.count + 1 ≡ a.count + b.count)

-- row r's link in a list of links
abbrev pub at : List Link → ℕ → Link
at ks r = slice_index_or ks r (record { row = 0; count = 0 })

-- the rows of xs are below size, distinct, and none stands in ys
abbrev pub Half : ℕ → List ℕ → List ℕ → Type 0
Half size xs ys = Each (λ r. (0 < r) × (r < size) × Each (λ y. y ≢ r) ys) xs × Distinct xs

abbrev pub Sound : ℕ → List ℕ → List ℕ → Type 0
Sound size xs ys = Half size xs ys × Half size ys xs

-- n is a row that stands in neither
abbrev pub Fresh : ℕ → ℕ → List ℕ → List ℕ → Type 0
Fresh size n xs ys = (0 < n) × (n < size) × Each (λ r. r ≢ n) xs × Each (λ r. r ≢ n) ys

-- whether row r has a link of level l
abbrev pub reach : List ℕ → ℕ → ℕ → Bool
reach ls l r = nat_lt l (slice_index ls r)

abbrev pub Within : ℕ → ℕ → Type 0
Within size r = (0 < r) × (r < size)

-- k leads to the nearest row of `far` that has a link of level l, and from there the links of that level lead on
abbrev pub Leads : List ℕ → List Link → ℕ → List ℕ → Link → Type 0
Leads ls nx l far k =
    Away (reach ls l) (at nx) far × Each (Within (length ls)) far × (length far + 1 < limit) × (k ≡ nearest (reach ls l) far)

-- k leads back to a row of `behind` that passes, or to row 0 past the last one
abbrev pub Stop : (ℕ → Bool) → List ℕ → Link → Type 0
Stop p [] k = k ≡ record { row = 0; count = 1 }
Stop p (r ∷ rs) k = ((p r ≡ true) × (k ≡ record { row = r; count = 1 })) ⊎ ((j : Link) × (Stop p rs j × (k ≡ plus 1 j)))

-- k leads back to a row that has a link of level l, and from there the links of that level lead to the split
abbrev pub Nears : List ℕ → List Link → ℕ → List ℕ → List ℕ → Link → Type 0
Nears ls nx l xs ys k = Toward (reach ls l) (at nx) ys xs × Each (Within (length ls)) xs × Stop (reach ls l) xs k
