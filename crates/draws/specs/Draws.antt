-- A draw is the next state of the xorshift: left 13, right 17, left 5, each laid over the state.
use Rattle.std.specs.Prelude.{ℕ, ◌*◌, ◌/◌, ◌%◌, ◌^◌, ◌==◌, bit_xor, cond}

-- a word of 32 bits laid over itself, moved to the left, and to the right
abbrev pub leftward : ℕ → ℕ → ℕ
leftward k word = bit_xor word (word * 2 ^ k % 2 ^ 32)

abbrev pub rightward : ℕ → ℕ → ℕ
rightward k word = bit_xor word (word / 2 ^ k)

abbrev pub drawn : ℕ → ℕ
drawn state = leftward 5 (rightward 17 (leftward 13 state))

-- the number below n that a draw stands for; below 0 it is 0
abbrev pub within : ℕ → ℕ → ℕ
within n draw = cond (n == 0) 0 (draw % n)
