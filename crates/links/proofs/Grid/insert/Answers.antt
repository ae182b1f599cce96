-- Why `insert` keeps its contract.
use Rattle.links.proofs.Entries.{enters_count, entered, entered_last, place_last}
use Rattle.links.proofs.Grid.insert.Goals as goal

pub append-requires : goal.append-requires
append-requires c = (_, place_last _ _ _ _ _ _ _ c.if-place-len.true (c.raise.ensures.put _ c.requires.enters))

pub enter-requires : goal.enter-requires
enter-requires c = (_, (_, (c.raise.ensures.put _ c.requires.enters, enters_count _ _ _ _ _ c.requires.enters)))

pub returns-then-place-len-clause-ring : goal.returns-then-place-len-clause-ring
returns-then-place-len-clause-ring c =
    entered_last _ _ _ _ _ c.if-place-len.true (c.append.ensures.put _ (place_last _ _ _ _ _ _ _ c.if-place-len.true (c.raise.ensures.put _ c.requires.enters)))

pub returns-else-place-len-clause-ring : goal.returns-else-place-len-clause-ring
returns-else-place-len-clause-ring c =
    entered _ _ _ _ _ (c.enter.ensures.put _ _ (c.raise.ensures.put _ c.requires.enters, enters_count _ _ _ _ _ c.requires.enters))
