-- A line as words with one space between them.
use Rattle.std.specs.Prelude.{ℕ, cond, List, [], ◌∷◌, ◌++◌, ◌==◌}

-- the bytes before the first space
abbrev pub word : List ℕ → List ℕ
word [] = []
word (b ∷ bs) = cond (b == 32) [] (b ∷ word bs)

-- what comes after the word, with its space
abbrev pub rest : List ℕ → List ℕ
rest [] = []
rest (b ∷ bs) = cond (b == 32) (b ∷ bs) (rest bs)

-- the words after the first
abbrev pub fields : List ℕ → List (List ℕ)
fields [] = []
fields (b ∷ bs) = cond (b == 32) (word bs ∷ fields bs) (fields bs)

-- each word after one space
abbrev pub spread : List (List ℕ) → List ℕ
spread [] = []
spread (w ∷ ws) = 32 ∷ (w ++ spread ws)
