-- How a script grows by a recorded entry, and what is counted of it.
--     Room s            one more command and its report fit
--     Grows s u         the script u is s with one command and one report more
--     Unread t v        the tally v is t with one line more that was not read
--     Added s t u v     a line grows the script, or is counted as not read
--     Replayed s t u v  a script with commands is counted, and begins anew; one with none stays as it is
use Rattle.std.specs.Prelude.{◌≡◌, ◌≢◌, ◌+◌, ◌≤◌, ◌⊎◌, [], List, ◌++◌, length, min, ℕ}
use Rattle.replay.specs.declared.script.Script.{Script}
use Rattle.replay.specs.declared.script.Tally.{Tally}

abbrev pub Room : Script → Type 0
Room s = (length s.commands.items + 12 ≤ 49152) × (length s.recorded.items + 16 ≤ 65536)

abbrev pub Grows : Script → Script → Type 0
Grows s u = (c r : List ℕ) × (length c ≡ 12) × (length r ≡ 16)
    × (u.commands.items ≡ s.commands.items ++ c) × (u.recorded.items ≡ s.recorded.items ++ r)

abbrev pub Unread : Tally → Tally → Type 0
Unread t v = (v.unread ≡ min (t.unread + 1) 4294967295)
    × (v.scripts ≡ t.scripts) × (v.equal ≡ t.equal) × (v.other ≡ t.other)

abbrev pub Added : Script → Tally → Script → Tally → Type 0
Added s t u v = (Room s × Grows s u × (v ≡ t)) ⊎ ((u ≡ s) × Unread t v)

abbrev pub Replayed : Script → Tally → Script → Tally → Type 0
Replayed s t u v = ((s.commands.items ≡ []) × (u ≡ s) × (v ≡ t))
    ⊎ ((s.commands.items ≢ []) × (u.commands.items ≡ []) × (u.recorded.items ≡ [])
    × (v.scripts ≡ min (t.scripts + 1) 4294967295) × (v.unread ≡ t.unread))
