-- Why `links_at` keeps its contract.
use Rattle.std.proofs.Common.{suc, ◌≤◌, sym, ◌∙◌, subst, arith}
use Rattle.links.specs.declared.Link.{Link}
use Rattle.skip_list.specs.Lent.{size}
use Rattle.skip_list.proofs.Laws.{ahead_low, back_low, row_fits, row_linked, links_are}
use Rattle.skip_list.proofs.lent.Lent.links_at.Goals as goal

pub overflow_add-row : goal.overflow_add-row
overflow_add-row g c = omega (arith, (row_fits c.args.self.now _ _ c.requires.1).2)

pub link-ahead-requires : goal.link-ahead-requires
link-ahead-requires g c = let f = row_fits c.args.self.now _ _ c.requires.1 in record { row = f.0; level = omega (arith, f.1, c.requires.2) }

pub overflow_add-row-2 : goal.overflow_add-row-2
overflow_add-row-2 g c = omega (arith, (row_fits c.args.self.now _ _ c.requires.1).2)

pub link-back-requires : goal.link-back-requires
link-back-requires g c = let f = row_fits c.args.self.now _ _ c.requires.1 in record { row = f.0; level = omega (arith, f.1, c.requires.2) }

pub named-requires : goal.named-requires
named-requires g c =
    subst (λ (k : Link). k.row ≤ size c.args.self.now) (sym (c.link-ahead.ensures ∙ (row_linked c.args.self.now c.args.level _ _ c.requires.1 c.requires.2).0))
    (ahead_low c.args.self.now c.args.level (suc c.requires.0))

pub named-requires-2 : goal.named-requires-2
named-requires-2 g c =
    subst (λ (k : Link). k.row ≤ size c.args.self.now) (sym (c.link-back.ensures ∙ (row_linked c.args.self.now c.args.level _ _ c.requires.1 c.requires.2).1))
    (back_low c.args.self.now c.args.level c.requires.0)

pub returns : goal.returns
returns g c = λ i a up. links_are c.args.self.now c.args.level i c.args.row a up _ _ _ _ c.link-ahead.ensures c.link-back.ensures c.named.ensures c.named-2.ensures
