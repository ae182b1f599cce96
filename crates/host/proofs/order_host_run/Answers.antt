-- Why `order_host_run` keeps its contract.
use Rattle.std.proofs.Common.{◌≡◌, ℕ, ◌+◌, ◌-◌, ◌*◌, ◌<◌, length, drop, refl, sym, ap, ◌∙◌, subst, rules, arith, length-drop}
use lib.Seq.{paste}
use Rattle.std.proofs.lemmas.List.{length_push}
use Rattle.std.proofs.lemmas.Slice.{put_mid-paste}
use Rattle.std.specs.Iterator.Adapters.{take_count, take_source}
use Rattle.std.specs.Slice.Iter.{chunks_rest}
use Rattle.host.specs.Replies.{laid, report_of}
use Rattle.host.specs.Runs.{Answers}
use Rattle.host.proofs.Running.{chunk_next, counted, underway_all, underway_more}
use Rattle.host.proofs.order_host_run.Goals as goal

pub loop-command-preserved : goal.loop-command-preserved
loop-command-preserved c =
    let before = c.loop-command.invariant in
    let i = length c.loop-command.yielded in
    let more = length_push c.loop-command.yielded c.in-Some.command in
    let chunk = c.in-Some.ensures.steps.0 in
    let left : length (chunks_rest (take_source c.loop-command.command-iterator)) ≡ length c.args.commands.now - 12 * i = ap length before.left ∙ length-drop (12 * i) c.args.commands.now in
    let next = chunk_next c.args.commands.now _ c.in-Some.command.now (chunks_rest (take_source c.next.new.self)) i before.left chunk.1.0 (rw before.size at chunk.1.1) in
    let report = c.bytes-report.ensures ∙ ap laid c.from.ensures in
    let pasted = put_mid-paste c.loop-command.written (c.loop-command.written + 16 - c.loop-command.written) c.loop-command.out c.copy_from_slice.new.self (laid (report_of c.answer-told.result)) 16 (c.copy_from_slice.ensures.after ∙ report) (omega arith) refl
    ∙ ap (λ (n : ℕ). paste c.loop-command.out n (laid (report_of c.answer-told.result)) 16) before.written in
    record {
      callable = search rules;
      finite = search rules;
      size = chunk.0 ∙ before.size;
      left = next.1 ∙ ap (λ (n : ℕ). drop (12 * n) c.args.commands.now) (sym more);
      room = omega (arith, more, c.in-Some.ensures.steps.1, before.room);
      began = omega (arith, more, left, chunk.1.2);
      written = omega (arith, more, before.written);
      underway = underway_more _ _ i _ _ _ _ _ _ _ before.underway next.0 c.answer-told.ensures _ pasted _ more;
    }

pub returns : goal.returns
returns c =
    let before = c.loop-command.invariant in
    let i = length c.loop-command.yielded in
    let done : 0 < take_count c.loop-command.command-iterator → length c.args.commands.now - 12 * i ≡ 0 =
    λ more. sym (length-drop (12 * i) c.args.commands.now) ∙ ap length (sym before.left) ∙ (c.in-None.ensures.steps more).1.0 in
    let count = counted i _ _ _ before.began before.room done in
    record {
      length = before.written ∙ ap (λ (n : ℕ). 16 * n) count;
      answers = subst (λ (n : ℕ). Answers c.args.commands.now c.args.out.now n c.loop-command.out) (sym before.written) (underway_all _ _ i _ _ _ count before.underway);
    }
