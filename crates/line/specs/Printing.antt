-- A printed line at the front of a slice.
use Rattle.std.specs.Prelude.{◌≡◌, ℕ, ◌≤◌, List, [], ◌∷◌, ◌++◌, length, drop}

-- a text with its newline
abbrev pub lined : List ℕ → List ℕ
lined text = text ++ (10 ∷ [])

-- after is out with the bytes at its front
abbrev pub fronted : List ℕ → List ℕ → List ℕ
fronted bytes out = bytes ++ drop (length bytes) out

-- where the text and its newline have room on a page, they stand at the front of out, later bytes are as before, and n is their length
abbrev pub Prints : List ℕ → List ℕ → List ℕ → ℕ → Type 0
Prints text out after n = length (lined text) ≤ 1024 → (n ≡ length (lined text)) × (after ≡ fronted (lined text) out)
