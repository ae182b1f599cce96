-- Why `answer` keeps its contract.
use Rattle.std.proofs.Common.{refl, sym, ap, subst}
use Rattle.skip_list.specs.declared.call.Answer.TheVariants.{Key, Put}
use Rattle.skip_list.specs.declared.call.Call.{Call}
use Rattle.skip_list.specs.Play.{Carries}
use Rattle.skip_list.proofs.Plays.{carries_after_in, carries_index, carries_out_at}
use Rattle.skip_list.proofs.list.SkipList.answer.Goals as goal

pub returns-in-InsertAfter : goal.returns-in-InsertAfter
returns-in-InsertAfter g c = record {
  told = λ ds w. subst (λ (x : Call _). Carries ds c.args.self.now.lent x (Put c.insert_after.result) c.insert_after.new.self.lent) (sym c.in-InsertAfter.is)
      (carries_after_in ds _ _ w (λ x. x.lent) _ refl _ _ _ _ c.insert_after.ensures.inserts (c.insert_after.ensures.told ds w) (λ e. ap (λ x. x.lent) (c.insert_after.ensures.kept e)));
}

pub returns-in-InsertIndex : goal.returns-in-InsertIndex
returns-in-InsertIndex g c = record {
  told = λ ds w. subst (λ (x : Call _). Carries ds c.args.self.now.lent x (Put c.insert_index.result) c.insert_index.new.self.lent) (sym c.in-InsertIndex.is)
      (carries_index ds _ _ w _ _ _ _ c.insert_index.ensures.inserts (c.insert_index.ensures.told ds w) (λ e. ap (λ x. x.lent) (c.insert_index.ensures.kept e)));
}

pub returns-in-RemoveIndex : goal.returns-in-RemoveIndex
returns-in-RemoveIndex g c = record {
  told = λ ds w. subst (λ (x : Call _). Carries ds c.args.self.now.lent x (Key c.remove_index.result) c.remove_index.new.self.lent) (sym c.in-RemoveIndex.is)
      (carries_out_at ds _ _ w _ _ c.remove_index.ensures.removes (c.remove_index.ensures.told ds w) (λ e. ap (λ x. x.lent) (c.remove_index.ensures.kept e)));
}
