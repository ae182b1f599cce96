-- Where a desk begins.
--     new_desk m n       the stand of a new desk whose row lists have m and n rows
use Rattle.std.specs.Prelude.{ℕ, min}
use Rattle.order.specs.Order.{vacant}
use Rattle.book.specs.Yards.{opened}
use Rattle.line.specs.Replies.{Stand}

-- the rules may fill their rows; twelve trains may wait, or fewer where there are fewer rows
abbrev pub new_desk : ℕ → ℕ → Stand
new_desk m n = record { board = opened (vacant m) (vacant (min 12 n)); state = 1 }
