-- A command that is a call of the list: what the call does, the command does.
use Rattle.std.proofs.Common.{◌≡◌, ℕ, List, length, Ok, Err, Result, sym, refl, ap, ◌∙◌, subst}
use Rattle.std.proofs.lemmas.Result.{err_from_is_err_and}
use Rattle.std.specs.Result.{IsErrAnd}
use Rattle.order.specs.declared.fault.SetFault.{SetFault}
use Rattle.order.specs.declared.keys.RuleNumber.{RuleNumber}
use Rattle.order.specs.Deeds.{Deed, order_after}
use Rattle.skip_list.specs.Lent.{size}
use Rattle.skip_list.specs.Play.{Carries}
use Rattle.skip_list.specs.declared.call.Answer.{Answer}
use Rattle.skip_list.specs.declared.call.Answer.TheVariants.{Put}
use Rattle.skip_list.specs.declared.call.Call.{Call}
use Rattle.skip_list.specs.declared.call.Call.TheVariants.{InsertIndex}
use Rattle.skip_list.specs.declared.lent.Lent.{Lent}
use Rattle.host.specs.declared.carry.Pending.{Pending}
use Rattle.host.specs.declared.command.Command.{Command}
use Rattle.host.specs.declared.command.Command.TheVariants.{Push}
use Rattle.host.specs.declared.refusal.Refusal.{Refusal}
use Rattle.host.specs.declared.refusal.Refusal.TheVariants.{Set}
use Rattle.host.specs.declared.reply.Reply.{Reply}
use Rattle.host.specs.declared.reply.Reply.TheVariants.{Done}
use Rattle.host.specs.Replies.{reply_to}
use Rattle.host.specs.Runs.{Asks, Carried, Does, Standing, standing}

-- a command of which a call with this answer is asked
abbrev pub Serves : List (Deed RuleNumber) → Lent RuleNumber → Pending → Command → Result Reply Refusal → Lent RuleNumber → Type 0
Serves ds s p c r t = Carried (λ n u v. Does n u c r v) ds s p t p

-- an insertion that went in, and one that was turned down
pub put_done : (r : Result Unit SetFault) (o : Unit) → r ≡ Ok o → Ok Done ≡ reply_to (Put r)
put_done r o is = ap (λ (x : Result Unit SetFault). reply_to (Put x)) (sym is)

pub put_refused : (r : Result Unit SetFault) (e : SetFault) (x : Result Reply Refusal) → r ≡ Err e → IsErrAnd x (λ y. y ≡ Set e) → x ≡ reply_to (Put r)
put_refused r e x is h =
    let p = err_from_is_err_and x h in
    p.1 ∙ ap Err p.2 ∙ ap (λ (y : Result Unit SetFault). reply_to (Put y)) (sym is)

module _ (ds : List (Deed RuleNumber)) (s t : Lent RuleNumber) (p : Pending) where
  pub by_call : (m c : Command) (call : Call RuleNumber) (a : Answer RuleNumber) (r : Result Reply Refusal) → m ≡ c →
      ((u : Standing) → Asks (size s) (standing ds p) call r u → Does (size s) (standing ds p) c r u) →
      Carries ds s call a t → r ≡ reply_to a → Serves ds s p m r t
  by_call m c call a r is f x e =
      subst (λ (y : Command). Serves ds s p y r t) (sym is)
      (record { after = x.after; does = f _ (a, x.adds, e, refl, refl); told = x.told; room = x.room })

  -- a push goes in at the end
  pub by_push : (m : Command) (i : ℕ) (k : RuleNumber) (d : ℕ) (a : Answer RuleNumber) (r : Result Reply Refusal) → m ≡ Push k d → i ≡ length (order_after ds) →
      Carries ds s (InsertIndex i k d) a t → r ≡ reply_to a → Serves ds s p m r t
  by_push m i k d a r is at_end x e =
      by_call m (Push k d) (InsertIndex (length (order_after ds)) k d) a r is (λ _ y. y) (subst (λ (j : ℕ). Carries ds s (InsertIndex j k d) a t) at_end x) e
