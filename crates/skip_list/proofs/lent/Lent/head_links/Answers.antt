-- Why `head_links` keeps its contract.
use Rattle.std.proofs.Common.{◌≡◌, ◌≤◌, None, sym, ap, ◌∙◌, subst}
use Rattle.links.specs.declared.Link.{Link}
use Rattle.skip_list.specs.declared.report.KeyLink.{KeyLink}
use Rattle.skip_list.specs.Lent.{keys_of, kept, size}
use Rattle.skip_list.specs.Tower.{highs, key_link, link_ahead}
use Rattle.skip_list.proofs.Laws.{ahead_low, ahead_of, head_keeps}
use Rattle.skip_list.proofs.lent.Lent.head_links.Goals as goal

pub named-requires : goal.named-requires
named-requires g c =
    subst (λ (k : Link). k.row ≤ size c.args.self.now) (sym (c.link-ahead.ensures ∙ head_keeps c.args.self.now c.args.level c.requires))
    (ahead_low c.args.self.now c.args.level 0)

pub returns : goal.returns
returns g c =
    let s = c.args.self.now in
    let e : c.named.result ≡ link_ahead (kept s) (highs s) c.args.level 0 =
    c.named.ensures ∙ ap (key_link (keys_of s)) (c.link-ahead.ensures ∙ head_keeps s c.args.level c.requires) ∙ ahead_of s c.args.level 0 in
    ap (λ (k : KeyLink _). record { ahead = k; back = record { key = None; count = 0 } }) e
