-- The hashes of the two key types, from their identities.
use Rattle.std.specs.Prelude.{ℕ, ◌+◌, ◌*◌, ◌/◌, ◌%◌, List, [], ◌∷◌, bit_xor}

-- a product of 32 bits, its high half laid over its low half
abbrev pub folded : ℕ → ℕ
folded product = bit_xor product (product / 65536)

abbrev pub scattered : ℕ → ℕ
scattered word = folded (word * 2654435761 % 4294967296)

-- a rule number's identity is one number, a tag's is its class and its train number
abbrev pub number_hash : List ℕ → ℕ
number_hash [] = 0
number_hash (value ∷ _) = scattered value

abbrev pub tag_hash : List ℕ → ℕ
tag_hash [] = 0
tag_hash (class ∷ []) = 0
tag_hash (class ∷ number ∷ _) = scattered (class * 65536 + number)
