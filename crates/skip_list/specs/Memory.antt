-- The check of lent memory: of several slices of rows the shortest counts.
use Rattle.std.specs.Prelude.{◌≡◌, ℕ, ◌*◌, ◌<◌, ◌≤◌, min, ◌⊎◌, Ok, Err, Result}
use Rattle.skip_list.specs.declared.fault.ListFault.{ListFault}
use Rattle.skip_list.specs.declared.fault.ListFault.TheVariants.{BadMemory, NoKey, NoLevel}

-- memory for a list of n rows
abbrev pub Good : ℕ → ℕ → Type 0
Good n slots = (0 < n) × (n ≤ 4096) × (slots ≡ 2 * n)

abbrev pub MemoryFor : ℕ → ℕ → ℕ → Result ℕ ListFault → Type 0
MemoryFor keys rows slots (Ok n) = (n ≡ min keys rows) × Good n slots
MemoryFor keys rows slots (Err BadMemory) = Good (min keys rows) slots → ⊥
MemoryFor keys rows slots (Err NoKey) = ⊥
MemoryFor keys rows slots (Err NoLevel) = ⊥

-- the rows of a list over the memory: none where it fails the check
abbrev pub Usable : ℕ → ℕ → ℕ → ℕ → Type 0
Usable keys rows slots n = ((n ≡ min keys rows) × Good n slots) ⊎ ((n ≡ 0) × (Good (min keys rows) slots → ⊥))
