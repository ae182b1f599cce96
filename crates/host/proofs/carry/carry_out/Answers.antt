-- Why `carry_out` keeps its contract.
use Rattle.std.proofs.Common.{length, Ok, refl, ap, ◌∙◌}
use Rattle.skip_list.proofs.Plays.{carries_after_in, carries_found, carries_given, carries_head, carries_index, carries_out, carries_out_at}
use Rattle.host.proofs.Carrying.{by_call, by_push, put_done, put_refused}
use Rattle.host.proofs.carry.carry_out.Goals as goal

pub returns-in_err-insert_head-in-InsertHead : goal.returns-in_err-insert_head-in-InsertHead
returns-in_err-insert_head-in-InsertHead c =
    λ ds w. by_call ds _ _ _ _ _ _ _ _ c.in-InsertHead.is (λ _ a. a) (carries_head ds _ _ w _ _ _ c.insert_head.ensures.inserts (c.insert_head.ensures.told ds w) (λ e. ap (λ x. x.lent) (c.insert_head.ensures.kept e))) (put_refused _ _ _ c.in_err-insert_head-in-InsertHead.was c.from_residual.ensures.1)

pub returns-in_ok-insert_head-in-InsertHead : goal.returns-in_ok-insert_head-in-InsertHead
returns-in_ok-insert_head-in-InsertHead c =
    λ ds w. by_call ds _ _ _ _ _ _ _ _ c.in-InsertHead.is (λ _ a. a) (carries_head ds _ _ w _ _ _ c.insert_head.ensures.inserts (c.insert_head.ensures.told ds w) (λ e. ap (λ x. x.lent) (c.insert_head.ensures.kept e))) (put_done _ _ c.in_ok-insert_head-in-InsertHead.was)

pub returns-in_err-insert_after-in-InsertAfter : goal.returns-in_err-insert_after-in-InsertAfter
returns-in_err-insert_after-in-InsertAfter c =
    λ ds w. by_call ds _ _ _ _ _ _ _ _ c.in-InsertAfter.is (λ _ a. a) (carries_after_in ds _ _ w (λ x. x.lent) _ refl _ _ _ _ c.insert_after.ensures.inserts (c.insert_after.ensures.told ds w) (λ e. ap (λ x. x.lent) (c.insert_after.ensures.kept e))) (put_refused _ _ _ c.in_err-insert_after-in-InsertAfter.was c.from_residual-in_err-insert_after-in-InsertAfter.ensures.1)

pub returns-in_ok-insert_after-in-InsertAfter : goal.returns-in_ok-insert_after-in-InsertAfter
returns-in_ok-insert_after-in-InsertAfter c =
    λ ds w. by_call ds _ _ _ _ _ _ _ _ c.in-InsertAfter.is (λ _ a. a) (carries_after_in ds _ _ w (λ x. x.lent) _ refl _ _ _ _ c.insert_after.ensures.inserts (c.insert_after.ensures.told ds w) (λ e. ap (λ x. x.lent) (c.insert_after.ensures.kept e))) (put_done _ _ c.in_ok-insert_after-in-InsertAfter.was)

pub returns-in_err-insert_index-in-InsertIndex : goal.returns-in_err-insert_index-in-InsertIndex
returns-in_err-insert_index-in-InsertIndex c =
    λ ds w. by_call ds _ _ _ _ _ _ _ _ c.in-InsertIndex.is (λ _ a. a) (carries_index ds _ _ w _ _ _ _ c.insert_index.ensures.inserts (c.insert_index.ensures.told ds w) (λ e. ap (λ x. x.lent) (c.insert_index.ensures.kept e))) (put_refused _ _ _ c.in_err-insert_index-in-InsertIndex.was c.from_residual-in_err-insert_index-in-InsertIndex.ensures.1)

pub returns-in_ok-insert_index-in-InsertIndex : goal.returns-in_ok-insert_index-in-InsertIndex
returns-in_ok-insert_index-in-InsertIndex c =
    λ ds w. by_call ds _ _ _ _ _ _ _ _ c.in-InsertIndex.is (λ _ a. a) (carries_index ds _ _ w _ _ _ _ c.insert_index.ensures.inserts (c.insert_index.ensures.told ds w) (λ e. ap (λ x. x.lent) (c.insert_index.ensures.kept e))) (put_done _ _ c.in_ok-insert_index-in-InsertIndex.was)

pub returns-in_err-insert_index-in-Push : goal.returns-in_err-insert_index-in-Push
returns-in_err-insert_index-in-Push c =
    λ ds w. by_push ds _ _ _ _ _ _ _ _ _ c.in-Push.is (c.length-end.ensures ∙ ap length w.order) (carries_index ds _ _ w _ _ _ _ c.insert_index-in-Push.ensures.inserts (c.insert_index-in-Push.ensures.told ds w) (λ e. ap (λ x. x.lent) (c.insert_index-in-Push.ensures.kept e))) (put_refused _ _ _ c.in_err-insert_index-in-Push.was c.from_residual-in_err-insert_index-in-Push.ensures.1)

pub returns-in_ok-insert_index-in-Push : goal.returns-in_ok-insert_index-in-Push
returns-in_ok-insert_index-in-Push c =
    λ ds w. by_push ds _ _ _ _ _ _ _ _ _ c.in-Push.is (c.length-end.ensures ∙ ap length w.order) (carries_index ds _ _ w _ _ _ _ c.insert_index-in-Push.ensures.inserts (c.insert_index-in-Push.ensures.told ds w) (λ e. ap (λ x. x.lent) (c.insert_index-in-Push.ensures.kept e))) (put_done _ _ c.in_ok-insert_index-in-Push.was)

pub returns-in-RemoveKey : goal.returns-in-RemoveKey
returns-in-RemoveKey c =
    λ ds w. by_call ds _ _ _ _ _ _ _ _ c.in-RemoveKey.is (λ _ a. a) (carries_out ds _ _ w _ _ c.remove_key.ensures.removes (c.remove_key.ensures.told ds w) (λ e. ap (λ x. x.lent) (c.remove_key.ensures.kept e))) (ap Ok c.into.ensures)

pub returns-in-RemoveIndex : goal.returns-in-RemoveIndex
returns-in-RemoveIndex c =
    λ ds w. by_call ds _ _ _ _ _ _ _ _ c.in-RemoveIndex.is (λ _ a. a) (carries_out_at ds _ _ w _ _ c.remove_index.ensures.removes (c.remove_index.ensures.told ds w) (λ e. ap (λ x. x.lent) (c.remove_index.ensures.kept e))) (ap Ok c.into-in-RemoveIndex.ensures)

pub returns-in-IndexOf : goal.returns-in-IndexOf
returns-in-IndexOf c =
    λ ds w. by_call ds _ _ _ _ _ _ _ _ c.in-IndexOf.is (λ _ a. a) (carries_found ds _ _ w _ _ c.index_of.ensures.finds.0 (ap (λ x. x.lent) c.index_of.ensures.kept)) (ap Ok c.into-in-IndexOf.ensures)

pub returns-in-KeyOf : goal.returns-in-KeyOf
returns-in-KeyOf c =
    λ ds w. by_call ds _ _ _ _ _ _ _ _ c.in-KeyOf.is (λ _ a. a) (carries_given ds _ _ w _ _ c.key_of.ensures.gives.0 (ap (λ x. x.lent) c.key_of.ensures.kept)) (ap Ok c.into-in-KeyOf.ensures)
