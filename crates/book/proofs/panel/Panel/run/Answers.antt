-- One more turn of the script at a time.
use Rattle.std.proofs.Common.{◌+◌, List, [], ◌∷◌, ◌++◌, get_or, take, set, sym, refl, ap, ◌∙◌, append_assoc, arith}
use Rattle.std.proofs.Math.Seq.{map-set_same}
use Rattle.std.proofs.lemmas.List.{take_all, take_more_set}
use Rattle.book.specs.declared.call.Turn.{Turn}
use Rattle.book.specs.Calls.{called, turn}
use Rattle.book.proofs.Departing.{route_law}
use Rattle.book.proofs.Following.{as_history}
use Rattle.book.proofs.panel.Panel.run.Goals as goal

pub loop-turn-preserved : goal.loop-turn-preserved
loop-turn-preserved g c =
    let script = c.loop-turn.script in
    let i = c.loop-turn.turn-index in
    let now : Turn = turn (get_or script i c.turn-item.result).call c.step-turn.result in
    record {
      calls = map-set_same called script i now c.turn-item.result refl ∙ c.loop-turn.invariant.calls;
      follows = λ start h follows.
          as_history start ((h ++ take i script) ++ now ∷ []) (h ++ take (i + 1) (set script i now)) _
          (append_assoc h (take i script) (now ∷ []) ∙ ap (λ (ts : List Turn). h ++ ts) (sym (take_more_set script i now (omega arith))))
          (c.step-turn.ensures.law start (h ++ take i script) (c.loop-turn.invariant.follows start h follows)).0;
    }

pub returns-clause-law : goal.returns-clause-law
returns-clause-law g c = λ start h follows.
    let on = as_history start (h ++ take c.loop-turn.turn-index c.loop-turn.script) (h ++ c.loop-turn.script) _
    (ap (λ (ts : List Turn). h ++ ts) (take_all c.loop-turn.turn-index c.loop-turn.script (omega arith))) (c.loop-turn.invariant.follows start h follows) in
    (on, route_law start _ _ on)
