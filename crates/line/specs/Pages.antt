-- What writing at the end of a page leaves.
use Rattle.std.specs.Prelude.{◌≡◌, ℕ, ◌+◌, ◌≤◌, List, ◌++◌, length}
use Rattle.line.specs.declared.page.Page.{Page}

-- bs has room on the page
abbrev pub Room : Page → List ℕ → Type 0
Room p bs = length p.bytes.items + length bs ≤ 1024

-- q is the page p with bs written at its end, where they have room
abbrev pub Puts : Page → List ℕ → Page → Type 0
Puts p bs q = Room p bs → q.bytes.items ≡ p.bytes.items ++ bs
