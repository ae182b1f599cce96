-- What commands do, one after the other, and what is written of them.
--     Standing                    where a run stands: the deeds that built the list, and what waits for a splice
--     Does n s c r t              in a list of n rows the command c takes s to t, and is answered r
--     Heard n s bytes r t         the same of the bytes of a command, which may be none
--     Written n cs i s bytes      the first i commands take a new list to s, and their reports are these bytes
--     Answers cs before r after   the output after a run: the reports, and behind them what was there before
use Rattle.std.specs.Prelude.{◌≡◌, ℕ, zero, suc, List, [], ◌++◌, length, drop, Some, None, Ok, Err, Option, Result}
use Rattle.order.specs.Deeds.{Deed, order_after}
use Rattle.order.specs.declared.fault.SetFault.{SetFault}
use Rattle.order.specs.declared.keys.RuleNumber.{RuleNumber}
use Rattle.layers.specs.Splice.{SpliceAdds}
use Rattle.skip_list.specs.History.{LevelTold, Told, height_after, levels_after}
use Rattle.skip_list.specs.Lent.{size}
use Rattle.skip_list.specs.Play.{Adds}
use Rattle.skip_list.specs.Tower.{Linked}
use Rattle.skip_list.specs.declared.call.Answer.{Answer}
use Rattle.skip_list.specs.declared.call.Answer.TheVariants.{Spliced}
use Rattle.skip_list.specs.declared.call.Call.{Call}
use Rattle.skip_list.specs.declared.call.Call.TheVariants as call
use Rattle.skip_list.specs.declared.fault.ListFault.{ListFault}
use Rattle.skip_list.specs.declared.lent.Lent.{Lent}
use Rattle.skip_list.specs.declared.report.KeyLinks.{KeyLinks}
use Rattle.host.specs.declared.carry.Pending.{Pending}
use Rattle.host.specs.declared.command.Command.{Command}
use Rattle.host.specs.declared.command.Command.TheVariants.{Capacity, HeadLinks, HoldDraw, HoldKey, IndexOf, InsertAfter, InsertHead, InsertIndex, KeyOf, Length, Level, Links, Push, RemoveIndex, RemoveKey, Splice}
use Rattle.host.specs.declared.refusal.Refusal.{Refusal}
use Rattle.host.specs.declared.reply.Reply.{Reply}
use Rattle.host.specs.declared.reply.Reply.TheVariants.{Number}
use Rattle.host.specs.Bytes.{command_at, report_count}
use Rattle.host.specs.Commands.{Reads}
use Rattle.host.specs.Replies.{laid, link_reply, number_reply, reply_to, report_of}
use Rattle.host.specs.Waiting.{Holds}

pub record Standing : Type 0 where
  pub deeds : List (Deed RuleNumber)
  pub keys : List RuleNumber
  pub draws : List ℕ

abbrev pub fresh : Standing
fresh = record { deeds = []; keys = []; draws = [] }

-- a call of the list: what waits for a splice stays
abbrev pub Asks : ℕ → Standing → Call RuleNumber → Result Reply Refusal → Standing → Type 0
Asks n s c r t = (a : Answer RuleNumber) × Adds n s.deeds c a t.deeds × (r ≡ reply_to a) × (t.keys ≡ s.keys) × (t.draws ≡ s.draws)

-- a link report of a key, or of the head
abbrev pub ShowsLinks : Standing → Option RuleNumber → ℕ → Result Reply Refusal → Type 0
ShowsLinks s of l r = (v : Result (KeyLinks RuleNumber) ListFault) × Linked (order_after s.deeds) (levels_after s.deeds) (height_after s.deeds) of l v × (r ≡ link_reply v)

abbrev pub Does : ℕ → Standing → Command → Result Reply Refusal → Standing → Type 0
Does n s (InsertHead k d) r t = Asks n s (call.InsertHead k d) r t
Does n s (InsertAfter p k d) r t = Asks n s (call.InsertAfter p k d) r t
Does n s (InsertIndex i k d) r t = Asks n s (call.InsertIndex i k d) r t
Does n s (Push k d) r t = Asks n s (call.InsertIndex (length (order_after s.deeds)) k d) r t
Does n s (HoldKey k) r t = Holds s.keys k r t.keys × (t.deeds ≡ s.deeds) × (t.draws ≡ s.draws)
Does n s (HoldDraw d) r t = Holds s.draws d r t.draws × (t.deeds ≡ s.deeds) × (t.keys ≡ s.keys)
Does n s (Splice i) r t = (a : Result ℕ SetFault) × SpliceAdds n s.deeds i s.keys s.draws a t.deeds × (r ≡ reply_to (Spliced a)) × (t.keys ≡ []) × (t.draws ≡ [])
Does n s (RemoveKey k) r t = Asks n s (call.RemoveKey k) r t
Does n s (RemoveIndex i) r t = Asks n s (call.RemoveIndex i) r t
Does n s (IndexOf k) r t = Asks n s (call.IndexOf k) r t
Does n s (KeyOf i) r t = Asks n s (call.KeyOf i) r t
Does n s Length r t = (r ≡ Ok (Number (length (order_after s.deeds)))) × (t ≡ s)
Does n s Capacity r t = (r ≡ Ok (Number n)) × (t ≡ s)
Does n s (Level k) r t = ((v : Option ℕ) × LevelTold s.deeds k v × (r ≡ Ok (number_reply v))) × (t ≡ s)
Does n s (Links k l) r t = ShowsLinks s (Some k) l r × (t ≡ s)
Does n s (HeadLinks l) r t = ShowsLinks s None l r × (t ≡ s)

-- bytes that are no command are told so, and alter nothing
abbrev pub Follows : ℕ → Standing → Result Command Refusal → Result Reply Refusal → Standing → Type 0
Follows n s (Ok c) r t = Does n s c r t
Follows n s (Err e) r t = (r ≡ Err e) × (t ≡ s)

abbrev pub Heard : ℕ → Standing → List ℕ → Result Reply Refusal → Standing → Type 0
Heard n s bytes r t = (c : Result Command Refusal) × Reads bytes c × Follows n s c r t

-- a list that the deeds ds built, before and after a splice of what waits
pub record SplicedIn (ds : List (Deed RuleNumber)) (s : Lent RuleNumber) (i : ℕ) (ks : List RuleNumber) (us : List ℕ) (r : Result Reply Refusal) (t : Lent RuleNumber) : Type 0 where
  pub after : List (Deed RuleNumber)
  pub answer : Result ℕ SetFault
  pub adds : SpliceAdds (size s) ds i ks us answer after
  pub reply : r ≡ reply_to (Spliced answer)
  pub told : Told after t
  pub room : size t ≡ size s

-- where a run stands whose list the deeds ds built
abbrev pub standing : List (Deed RuleNumber) → Pending → Standing
standing ds p = record { deeds = ds; keys = p.keys.items; draws = p.draws.items }

-- a list that the deeds ds built, and what waits beside it, before and after what D says of both
pub record Carried (D : ℕ → Standing → Standing → Type 0) (ds : List (Deed RuleNumber)) (s : Lent RuleNumber) (p : Pending) (t : Lent RuleNumber) (q : Pending) : Type 0 where
  pub after : List (Deed RuleNumber)
  pub does : D (size s) (standing ds p) (standing after q)
  pub told : Told after t
  pub room : size t ≡ size s

-- a command, or the bytes of one, on a list that some deeds built, with what waits before it and after it
abbrev pub Served : Lent RuleNumber → Pending → Command → Result Reply Refusal → Lent RuleNumber → Pending → Type 0
Served s p c r t q = (ds : List (Deed RuleNumber)) → Told ds s → Carried (λ n u v. Does n u c r v) ds s p t q

abbrev pub ServedBytes : Lent RuleNumber → Pending → List ℕ → Result Reply Refusal → Lent RuleNumber → Pending → Type 0
ServedBytes s p bytes r t q = (ds : List (Deed RuleNumber)) → Told ds s → Carried (λ n u v. Heard n u bytes r v) ds s p t q

abbrev pub Written : ℕ → List ℕ → ℕ → Standing → List ℕ → Type 0
Written n commands zero s bytes = (s ≡ fresh) × (bytes ≡ [])
Written n commands (suc i) t bytes =
    (s : Standing) × (r : Result Reply Refusal) × (front : List ℕ)
    × Written n commands i s front × Heard n s (command_at commands i) r t × (bytes ≡ front ++ laid (report_of r))

-- every report is that of its command in the list of 256 rows that the commands before it left
pub record Answers (commands before : List ℕ) (r : ℕ) (after : List ℕ) : Type 0 where
  pub end : Standing
  pub reports : List ℕ
  pub are : Written 256 commands (report_count (length commands) (length before)) end reports
  pub long : length reports ≡ r
  pub bytes : after ≡ reports ++ drop r before
