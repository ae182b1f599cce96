-- A run underway: what the first commands did and wrote, and one command more.
use Rattle.std.proofs.Common.{◌≡◌, ℕ, ◌+◌, ◌-◌, ◌*◌, ◌/◌, ◌%◌, ◌<◌, ◌≤◌, ◌==◌, cond, min, List, [], ◌++◌, length, take, drop, append-nil, sym, refl, ap, ◌∙◌, subst, inl, inr, add-one, arith, length-append, Result}
use lib.Seq.{paste}
use Rattle.std.proofs.lemmas.Bool.{cases_lt}
use Rattle.std.proofs.lemmas.Bool.Decides.{nat_tests}
use Rattle.std.proofs.lemmas.List.{drop-drop, drop_all, drop_at, nil_from_length, take_all, take_at}
use Rattle.std.proofs.lemmas.Slice.{drop-append-drop}
use Rattle.order.specs.declared.keys.RuleNumber.{RuleNumber}
use Rattle.order.specs.Deeds.{Deed}
use Rattle.skip_list.specs.History.{Told}
use Rattle.skip_list.specs.Lent.{size}
use Rattle.skip_list.specs.Memory.{Usable}
use Rattle.skip_list.specs.declared.lent.Lent.{Lent}
use Rattle.host.specs.declared.carry.Pending.{Pending}
use Rattle.host.specs.declared.refusal.Refusal.{Refusal}
use Rattle.host.specs.declared.reply.Reply.{Reply}
use Rattle.host.specs.Bytes.{command_at, report_count}
use Rattle.host.specs.Replies.{laid, report_of}
use Rattle.host.specs.Runs.{Answers, Carried, Heard, Written, standing}

-- memory for 256 rows
pub all_rows : (n : ℕ) → Usable 256 256 512 n → n ≡ 256
all_rows n (inl x) = x.0
all_rows n (inr x) = absurd (x.1 (omega arith, omega arith, refl))

-- one more report, written behind those that stand
paste_more : (front more rest : List ℕ) (n : ℕ) → length front ≡ n → length more ≡ 16 → paste (front ++ drop n rest) n more 16 ≡ (front ++ more) ++ drop (n + 16) rest
paste_more front more rest n at size =
    let past : n ≤ n + 16 = omega arith in
    let short : length more ≤ 16 = omega arith in
    rw (take_at front (drop n rest) n at, take_all 16 more short, drop-append-drop n rest front (n + 16) past at)

-- the chunk that comes off the front of what is left is the next command
pub chunk_next : (cs left chunk rest : List ℕ) (i : ℕ) → left ≡ drop (12 * i) cs → left ≡ chunk ++ rest → length chunk ≡ min 12 (length left) →
    (chunk ≡ command_at cs i) × (rest ≡ drop (12 * (i + 1)) cs)
chunk_next cs left chunk rest i is parts size =
    let long = ap length parts ∙ length-append chunk rest in
    let next : 12 * i + 12 ≡ 12 * (i + 1) = omega arith in
    let front : take 12 (chunk ++ rest) ≡ chunk = elim (cases_lt (length chunk) 12) [
      | inl short ↦
          let none : rest ≡ [] = nil_from_length rest (omega arith) in
          rw (none, append-nil) (take_all 12 chunk (omega arith))
      | inr whole ↦ take_at chunk rest 12 (omega arith)
    ] in
    let back : drop 12 (chunk ++ rest) ≡ rest = elim (cases_lt (length chunk) 12) [
      | inl short ↦
          let none : rest ≡ [] = nil_from_length rest (omega arith) in
          rw (none, append-nil) (drop_all 12 chunk (omega arith))
      | inr whole ↦ drop_at chunk rest 12 (omega arith)
    ] in (
      sym front ∙ ap (take 12) (sym parts ∙ is),
      sym back ∙ ap (drop 12) (sym parts ∙ is) ∙ drop-drop 12 (12 * i) cs ∙ ap (λ (n : ℕ). drop n cs) next,
    )

-- one report for each command that was there, as far as there was room
up_bounds : (n : ℕ) → (n ≤ 12 * cond (n % 12 == 0) (n / 12) (n / 12 + 1)) × (12 * cond (n % 12 == 0) (n / 12) (n / 12 + 1) < n + 12)
up_bounds n = (grind (arith, nat_tests), grind (arith, nat_tests))

pub counted : (i n room more : ℕ) → 12 * i < n + 12 → more + i ≡ room / 16 → (0 < more → n - 12 * i ≡ 0) → i ≡ report_count n room
counted i n room more began stop done =
    let u = up_bounds n in
    elim (cases_lt 0 more) [
      | inl left ↦ let ended = done left in omega arith
      | inr none ↦ omega arith
    ]

-- after i commands: the list, what waits, and the output
pub record Underway (cs : List ℕ) (i : ℕ) (s : Lent RuleNumber) (p : Pending) (before out : List ℕ) : Type 0 where
  pub deeds : List (Deed RuleNumber)
  pub reports : List ℕ
  pub are : Written 256 cs i (standing deeds p) reports
  pub told : Told deeds s
  pub room : size s ≡ 256
  pub long : length reports ≡ 16 * i
  pub bytes : out ≡ reports ++ drop (16 * i) before

module _ (cs before : List ℕ) where
  pub underway_none : (s : Lent RuleNumber) (p : Pending) → Told [] s → size s ≡ 256 → p.keys.items ≡ [] → p.draws.items ≡ [] → Underway cs 0 s p before before
  underway_none s p w room k u = record {
    deeds = [];
    reports = [];
    are = (ap (λ (x : List RuleNumber). record { deeds = []; keys = x; draws = p.draws.items }) k ∙ ap (λ (x : List ℕ). record { deeds = []; keys = []; draws = x }) u, refl);
    told = w;
    room = room;
    long = refl;
    bytes = refl;
  }

  pub underway_more : (i : ℕ) (s t : Lent RuleNumber) (p q : Pending) (out bytes : List ℕ) (r : Result Reply Refusal) →
      Underway cs i s p before out → bytes ≡ command_at cs i → ((ds : List (Deed RuleNumber)) → Told ds s → Carried (λ n u v. Heard n u bytes r v) ds s p t q) →
      (after : List ℕ) → after ≡ paste out (16 * i) (laid (report_of r)) 16 → (j : ℕ) → j ≡ i + 1 → Underway cs j t q before after
  underway_more i s t p q out bytes r u at f after is j next =
      let x = f u.deeds u.told in
      let more : List ℕ = laid (report_of r) in
      let past : 16 * (i + 1) ≡ 16 * i + 16 = omega arith in
      let long : length (u.reports ++ more) ≡ 16 * (i + 1) = simp length-append (omega (arith, u.long)) in
      let heard : Heard 256 (standing u.deeds p) bytes r (standing x.after q) = subst (λ (n : ℕ). Heard n (standing u.deeds p) bytes r (standing x.after q)) u.room x.does in
      let here : Heard 256 (standing u.deeds p) (command_at cs i) r (standing x.after q) = subst (λ (b : List ℕ). Heard 256 (standing u.deeds p) b r (standing x.after q)) at heard in
      subst (λ (n : ℕ). Underway cs n t q before after) (sym next) (record {
        deeds = x.after;
        reports = u.reports ++ more;
        are = rw add-one (standing u.deeds p, r, u.reports, u.are, here, refl);
        told = x.told;
        room = x.room ∙ u.room;
        long = long;
        bytes =
            is ∙ ap (λ (o : List ℕ). paste o (16 * i) more 16) u.bytes ∙ paste_more u.reports more before (16 * i) u.long refl
            ∙ ap (λ (n : ℕ). (u.reports ++ more) ++ drop n before) (sym past);
      })

  pub underway_all : (i : ℕ) (s : Lent RuleNumber) (p : Pending) (out : List ℕ) → i ≡ report_count (length cs) (length before) → Underway cs i s p before out → Answers cs before (16 * i) out
  underway_all i s p out all u = record {
    end = standing u.deeds p;
    reports = u.reports;
    are = subst (λ (n : ℕ). Written 256 cs n (standing u.deeds p) u.reports) all u.are;
    long = u.long;
    bytes = u.bytes;
  }
