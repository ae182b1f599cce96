-- Why `put` keeps its contract.
use Rattle.skip_list.specs.declared.lent.Lent.{Lent}
use Rattle.skip_list.proofs.Moves.{enters_links, used_put, kept_put, highs_put, height_put, few_put, sized_put, chained_put}
use Rattle.skip_list.proofs.lent.Lent.put.Goals as goal

pub put-requires : goal.put-requires
put-requires g c = enters_links _ _ _ c.requires

pub returns : goal.returns
returns g c =
    let s = c.args.self.now in
    let k = c.link.ensures.keys in
    let o = c.put.ensures.order in
    let v = c.put.ensures.levels in
    let t : Lent _ = record {
      index = c.link.new.self;
      links = c.put.new.self;
      few = few_put s _ _ c.requires _ c.args.key k;
      sized = sized_put s _ _ c.requires _ c.args.key _ k v;
    } in
    record {
      keys = k;
      used = used_put s _ _ c.requires t c.args.key k o;
      kept = kept_put s _ _ c.requires t c.args.key k o;
      highs = highs_put s _ _ c.requires t c.args.key k o v;
      height = height_put s _ _ c.requires t c.args.key k o v;
      chains = λ home after there others i. chained_put s _ _ c.requires t c.args.key k o after (c.link.ensures.chains home after _ there others i);
    }
