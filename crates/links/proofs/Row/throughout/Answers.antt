-- A row with one link at every level.
use Rattle.std.proofs.Common.{◌≡◌, ℕ, ◌<◌, replicate, refl, ap, ◌∙◌}
use Rattle.std.proofs.lemmas.List.{get_or-replicate}
use Rattle.links.specs.declared.Link.{Link}
use Rattle.links.specs.declared.LevelLinks.{LevelLinks}
use Rattle.links.specs.declared.Way.{Way}
use Rattle.links.specs.declared.Way.TheVariants.{Ahead, Back}
use Rattle.links.specs.Cell.{unlinked, toward, link_of}
use Rattle.links.proofs.Row.throughout.Goals as goal

both : Link → LevelLinks
both k = record { ahead = k; back = k }

either : (k : Link) (w : Way) → toward w (both k) ≡ k
unfolding both
either k Ahead = refl
either k Back = refl

round : (v : ℕ) (k : Link) (w : Way) (l : ℕ) → l < 16 → link_of w l (record { level = v; links = record { at = replicate 16 (both k) } }) ≡ k
round v k w l lt = ap (toward w) (get_or-replicate 16 l (both k) unlinked lt) ∙ either k w

pub returns : goal.returns
unfolding both
returns c = record { level_is = refl; links_are = round c.args.level c.args.link }
