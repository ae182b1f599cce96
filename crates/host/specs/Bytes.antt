-- Numbers in bytes, and how commands and reports lie one after the other.
use Rattle.std.specs.Prelude.{ℕ, ◌+◌, ◌*◌, ◌/◌, ◌%◌, min, cond, List, take, drop, ◌==◌, slice_index}

-- the number in two bytes, and in four: the low byte first
abbrev pub two : List ℕ → ℕ → ℕ
two bytes at = slice_index bytes at + 256 * slice_index bytes (at + 1)

abbrev pub four : List ℕ → ℕ → ℕ
four bytes at = two bytes at + 65536 * two bytes (at + 2)

-- the bytes of command i: fewer than 12 where the commands end
abbrev pub command_at : List ℕ → ℕ → List ℕ
command_at commands i = take 12 (drop (12 * i) commands)

-- one report for each command, the cut-off one too, and no more than fit
abbrev pub report_count : ℕ → ℕ → ℕ
report_count commands room = min (cond (commands % 12 == 0) (commands / 12) (commands / 12 + 1)) (room / 16)
