-- Why `beyond` keeps its contract.
use Rattle.std.proofs.Common.{◌<◌, length, sym, subst}
use Rattle.links.specs.Cell.{laid, levels}
use Rattle.links.proofs.Enters.{onto_row, onto_least, onto_past, onto_next}
use Rattle.links.proofs.Grid.beyond.Goals as goal

pub link-requires-clause-row : goal.link-requires-clause-row
link-requires-clause-row c =
    let h = c.requires.onto.1.1.1 in
    subst (λ r. r < length (levels (laid c.args.self.now))) (sym (onto_row _ _ _ _ _ _ _ h c.if-over-pre.true).0) h.sound.1.0.0.1

pub overflow_sub-result : goal.overflow_sub-result
overflow_sub-result c = onto_least _ _ _ _ _ _ _ c.requires.onto.1.1.1

pub returns-then-over-pre : goal.returns-then-over-pre
returns-then-over-pre c n xs ys h = onto_next _ _ _ _ _ _ xs ys h c.if-over-pre.true c.link.ensures

pub returns-else-over-pre : goal.returns-else-over-pre
returns-else-over-pre c n xs ys h = onto_past _ _ _ _ _ xs ys h c.if-over-pre.false
