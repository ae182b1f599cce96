-- What a line says: a command's letter, and each of its fields after one space.
--     asked c          what the command c asks for
--     Lawful a         its fields may be so
--     written a        its written form
--     Line bs          the bytes are at most 80, no newline among them
--     Says line a      the line is the written form of what is asked
--     Reads line r     the command that the line says, or BadLine where it says none
use Rattle.std.specs.Prelude.{◌≡◌, ℕ, ◌^◌, ◌<◌, ◌≤◌, List, [], ◌∷◌, length, Ok, Err, decimal, Result, ◌≢◌, slice_index}
use Rattle.order.specs.declared.keys.TrainTag.{TrainTag}
use Rattle.line.specs.Words.{spread}
use Rattle.line.specs.declared.command.Adding.{Adding}
use Rattle.line.specs.declared.command.Command.{Command}
use Rattle.line.specs.declared.command.Command.TheVariants.{Add, Drop, Move, Join, Send, List as Listing}
use Rattle.line.specs.declared.fault.LineFault.{LineFault}
use Rattle.line.specs.declared.fault.LineFault.TheVariants.{BadLine}

-- a number of a field
abbrev pub Short : ℕ → Type 0
Short n = n < 2 ^ 16

-- a class byte
abbrev pub Mark : ℕ → Type 0
Mark b = b ≡ 32 → ⊥

-- capitals up to Z, each above the one before it, the first above low
abbrev pub Rising : ℕ → List ℕ → Type 0
Rising low [] = Unit {0}
Rising low (b ∷ bs) = (low < b) × (b ≤ 90) × Rising b bs

-- one capital or more, rising
abbrev pub Capitals : List ℕ → Type 0
Capitals bs = (0 < length bs) × Rising 64 bs

-- a rule to put in, its classes as bytes
pub record Addition : Type 0 where
  pub number : ℕ
  pub place : ℕ
  pub first : ℕ
  pub last : ℕ
  pub classes : List ℕ
  pub route : ℕ

-- what a command asks for
pub data Asked : Type 0 where
  adding : Addition → Asked
  dropping : ℕ → Asked
  moving : ℕ → ℕ → Asked
  joining : TrainTag → Asked
  sending : ℕ → Asked
  listing : Asked

abbrev pub addition : Adding → Addition
addition a = record { number = a.number; place = a.place; first = a.first; last = a.last; classes = a.classes.now; route = a.route }

abbrev pub asked : Command → Asked
asked (Add a) = adding (addition a)
asked (Drop n) = dropping n
asked (Move n p) = moving n p
asked (Join tag) = joining tag
asked (Send t) = sending t
asked Listing = listing

-- its letter: A, D, M, T, S, L
abbrev pub letter : Asked → ℕ
letter (adding a) = 65
letter (dropping n) = 68
letter (moving n p) = 77
letter (joining tag) = 84
letter (sending t) = 83
letter listing = 76

-- the fields after it
abbrev pub spelt : Asked → List (List ℕ)
spelt (adding a) = decimal a.number ∷ decimal a.place ∷ decimal a.first ∷ decimal a.last ∷ a.classes ∷ decimal a.route ∷ []
spelt (dropping n) = decimal n ∷ []
spelt (moving n p) = decimal n ∷ decimal p ∷ []
spelt (joining tag) = (tag.class ∷ []) ∷ decimal tag.number ∷ []
spelt (sending t) = decimal t ∷ []
spelt listing = []

-- what its fields may be
abbrev pub Lawful : Asked → Type 0
Lawful (adding a) = Short a.number × Short a.place × Short a.first × Short a.last × Capitals a.classes × Short a.route
Lawful (dropping n) = Short n
Lawful (moving n p) = Short n × Short p
Lawful (joining tag) = Mark tag.class × Short tag.number
Lawful (sending t) = Short t
Lawful listing = Unit {0}

-- at most 80 bytes, no newline among them
abbrev pub Line : List ℕ → Type 0
Line line = (length line ≤ 80) × ((k : ℕ) → k < length line → slice_index line k ≢ 10)

-- the written form
abbrev pub written : Asked → List ℕ
written a = letter a ∷ spread (spelt a)

-- the line is the written form of what may be asked
abbrev pub Says : List ℕ → Asked → Type 0
Says line a = Line line × Lawful a × (line ≡ written a)

-- the one command that the line says, just where it says one
abbrev pub Reads : List ℕ → Result Command LineFault → Type 0
Reads line (Ok c) = Says line (asked c) × ((a : Asked) → Says line a → a ≡ asked c)
Reads line (Err f) = (f ≡ BadLine) × ((a : Asked) → Says line a → ⊥)
