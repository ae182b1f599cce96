-- Which command some bytes are: the first byte is its letter, and each letter has its fields.
use Rattle.std.specs.Prelude.{◌≡◌, ℕ, ◌<◌, ◌≤◌, List, [], ◌∷◌, length, ◌≢◌, slice_index, Ok, Err, Result}
use Rattle.host.specs.declared.command.Command.{Command}
use Rattle.host.specs.declared.command.Command.TheVariants.{Capacity, HeadLinks, HoldDraw, HoldKey, IndexOf, InsertAfter, InsertHead, InsertIndex, KeyOf, Length, Level, Links, Push, RemoveIndex, RemoveKey, Splice}
use Rattle.host.specs.declared.refusal.Refusal.{Refusal}
use Rattle.host.specs.declared.refusal.Refusal.TheVariants.{CutOff, Unknown}
use Rattle.host.specs.Bytes.{two, four}

-- the letters H A I P Q W S R X i k n c v l h
abbrev pub letters : List ℕ
letters = 72 ∷ 65 ∷ 73 ∷ 80 ∷ 81 ∷ 87 ∷ 83 ∷ 82 ∷ 88 ∷ 105 ∷ 107 ∷ 110 ∷ 99 ∷ 118 ∷ 108 ∷ 104 ∷ []

-- a whole command with this letter
abbrev pub Lettered : List ℕ → ℕ → Type 0
Lettered bytes letter = (12 ≤ length bytes) × (slice_index bytes 0 ≡ letter)

-- none of some letters
abbrev pub Unlike : List ℕ → ℕ → Type 0
Unlike [] x = Unit {0}
Unlike (l ∷ ls) x = (x ≢ l) × Unlike ls x

-- the key lies in bytes 2 and 3, a place in 4 to 7, a predecessor in 4 and 5, a draw in 8 to 11, a level in byte 1
abbrev pub Means : List ℕ → Command → Type 0
Means bytes (InsertHead k d) = Lettered bytes 72 × (k.value ≡ two bytes 2) × (d ≡ four bytes 8)
Means bytes (InsertAfter p k d) = Lettered bytes 65 × (p.value ≡ two bytes 4) × (k.value ≡ two bytes 2) × (d ≡ four bytes 8)
Means bytes (InsertIndex i k d) = Lettered bytes 73 × (i ≡ four bytes 4) × (k.value ≡ two bytes 2) × (d ≡ four bytes 8)
Means bytes (Push k d) = Lettered bytes 80 × (k.value ≡ two bytes 2) × (d ≡ four bytes 8)
Means bytes (HoldKey k) = Lettered bytes 81 × (k.value ≡ two bytes 2)
Means bytes (HoldDraw d) = Lettered bytes 87 × (d ≡ four bytes 8)
Means bytes (Splice i) = Lettered bytes 83 × (i ≡ four bytes 4)
Means bytes (RemoveKey k) = Lettered bytes 82 × (k.value ≡ two bytes 2)
Means bytes (RemoveIndex i) = Lettered bytes 88 × (i ≡ four bytes 4)
Means bytes (IndexOf k) = Lettered bytes 105 × (k.value ≡ two bytes 2)
Means bytes (KeyOf i) = Lettered bytes 107 × (i ≡ four bytes 4)
Means bytes Length = Lettered bytes 110
Means bytes Capacity = Lettered bytes 99
Means bytes (Level k) = Lettered bytes 118 × (k.value ≡ two bytes 2)
Means bytes (Links k l) = Lettered bytes 108 × (k.value ≡ two bytes 2) × (l ≡ slice_index bytes 1)
Means bytes (HeadLinks l) = Lettered bytes 104 × (l ≡ slice_index bytes 1)

-- bytes with no letter are no command, and fewer than twelve are none whatever they are
abbrev pub Reads : List ℕ → Result Command Refusal → Type 0
Reads bytes (Ok c) = Means bytes c
Reads bytes (Err Unknown) = (12 ≤ length bytes) × Unlike letters (slice_index bytes 0)
Reads bytes (Err CutOff) = length bytes < 12
Reads bytes (Err _) = ⊥
