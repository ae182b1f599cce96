-- What the list's answers are told as, the report of each, and its bytes.
--     reply_to a     what an answer of the list is told as
--     report_of r    the fields of the report of r
--     laid f         the sixteen bytes of the fields
use Rattle.std.specs.Prelude.{ℕ, ◌/◌, ◌%◌, List, [], ◌∷◌, Some, None, Ok, Err, Option, Result}
use Rattle.order.specs.Faults.{set_number}
use Rattle.order.specs.declared.keys.RuleNumber.{RuleNumber}
use Rattle.skip_list.specs.Faults.{list_number}
use Rattle.skip_list.specs.declared.call.Answer.{Answer}
use Rattle.skip_list.specs.declared.call.Answer.TheVariants.{Key, Place, Put, Spliced}
use Rattle.skip_list.specs.declared.fault.ListFault.{ListFault}
use Rattle.skip_list.specs.declared.report.KeyLinks.{KeyLinks}
use Rattle.host.specs.declared.refusal.Refusal.{Refusal}
use Rattle.host.specs.declared.refusal.Refusal.TheVariants as refusal
use Rattle.host.specs.declared.reply.Reply.{Reply}
use Rattle.host.specs.declared.reply.Reply.TheVariants.{Done, Linked, Named, Nothing, Number}
use Rattle.host.specs.declared.report.Mark.{Mark}
use Rattle.host.specs.declared.report.Mark.TheVariants as mark
use Rattle.host.specs.declared.report.Report.{Report}

-- the number of a mark
abbrev pub mark_number : Mark → ℕ
mark_number mark.Done = 0
mark_number mark.Number = 1
mark_number mark.Named = 2
mark_number mark.Nothing = 3
mark_number mark.Linked = 4
mark_number mark.Refused = 5
mark_number mark.Unknown = 6
mark_number mark.CutOff = 7

abbrev pub fields : ℕ → ℕ → ℕ → ℕ → ℕ → ℕ → ℕ → ℕ → Report
fields m refusal ahead back key behind number count = record {
  mark = m;
  refusal = refusal;
  ahead = ahead;
  back = back;
  key = key;
  behind = behind;
  number = number;
  count = count;
}

-- a mark and nothing else
abbrev pub blank : ℕ → Report
blank m = fields m 0 0 0 0 0 0 0

-- 1 for a key and 0 for none; the number of a key, and 0 for none
abbrev pub named : Option RuleNumber → ℕ
named (Some _) = 1
named None = 0

abbrev pub key_number : Option RuleNumber → ℕ
key_number (Some k) = k.value
key_number None = 0

abbrev pub reply_report : Reply → Report
reply_report Done = blank (mark_number mark.Done)
reply_report (Number n) = fields (mark_number mark.Number) 0 0 0 0 0 n 0
reply_report (Named k) = fields (mark_number mark.Named) 0 0 0 k.value 0 0 0
reply_report Nothing = blank (mark_number mark.Nothing)
reply_report (Linked r) = fields (mark_number mark.Linked) 0 (named r.ahead.key) (named r.back.key) (key_number r.ahead.key) (key_number r.back.key) r.ahead.count r.back.count

-- a refusal by its number
abbrev pub refused_report : ℕ → Report
refused_report n = fields (mark_number mark.Refused) n 0 0 0 0 0 0

abbrev pub refusal_report : Refusal → Report
refusal_report (refusal.Set e) = refused_report (set_number e)
refusal_report (refusal.List e) = refused_report (list_number e)
refusal_report refusal.Unknown = blank (mark_number mark.Unknown)
refusal_report refusal.CutOff = blank (mark_number mark.CutOff)

abbrev pub report_of : Result Reply Refusal → Report
report_of (Ok r) = reply_report r
report_of (Err e) = refusal_report e

abbrev pub laid : Report → List ℕ
laid f =
    f.mark ∷ f.refusal ∷ f.ahead ∷ f.back
    ∷ f.key % 256 ∷ f.key / 256 % 256 ∷ f.behind % 256 ∷ f.behind / 256 % 256
    ∷ f.number % 256 ∷ f.number / 256 % 256 ∷ f.number / 65536 % 256 ∷ f.number / 16777216 % 256
    ∷ f.count % 256 ∷ f.count / 256 % 256 ∷ f.count / 65536 % 256 ∷ f.count / 16777216 % 256 ∷ []

-- a place, a level or none; a key or none
abbrev pub number_reply : Option ℕ → Reply
number_reply (Some n) = Number n
number_reply None = Nothing

abbrev pub key_reply : Option RuleNumber → Reply
key_reply (Some k) = Named k
key_reply None = Nothing

-- what an answer of the list is told as
abbrev pub reply_to : Answer RuleNumber → Result Reply Refusal
reply_to (Put (Ok _)) = Ok Done
reply_to (Put (Err e)) = Err (refusal.Set e)
reply_to (Spliced (Ok n)) = Ok (Number n)
reply_to (Spliced (Err e)) = Err (refusal.Set e)
reply_to (Place i) = Ok (number_reply i)
reply_to (Key k) = Ok (key_reply k)

abbrev pub link_reply : Result (KeyLinks RuleNumber) ListFault → Result Reply Refusal
link_reply (Ok r) = Ok (Linked r)
link_reply (Err e) = Err (refusal.List e)
