-- Why `run` keeps its contract.
use Rattle.std.proofs.Common.{List, ◌∙◌, subst, arith}
use Rattle.std.proofs.lemmas.List.{take_all}
use Rattle.skip_list.specs.declared.call.Turn.{Turn}
use Rattle.skip_list.specs.Play.{Runs}
use Rattle.skip_list.proofs.Plays.{calls_stay, runs_more}
use Rattle.skip_list.proofs.list.SkipList.run.Goals as goal

pub loop-turn-preserved : goal.loop-turn-preserved
loop-turn-preserved g c = (
  calls_stay c.loop-turn.turns c.loop-turn.turn-index c.take_turn.new.turn _ c.take_turn.ensures.called ∙ c.loop-turn.invariant.0,
  λ ds w. runs_more ds _ _ _ c.loop-turn.turns c.loop-turn.turn-index c.take_turn.new.turn (omega arith) (c.loop-turn.invariant.1 ds w) c.take_turn.ensures.told,
)

pub returns : goal.returns
returns g c =
    record {
      called = c.loop-turn.invariant.0;
      told = λ ds w. subst (λ (ts : List (Turn _)). Runs ds c.args.self.now.lent ts c.loop-turn.self.lent) (take_all c.loop-turn.turn-index c.loop-turn.turns (omega arith)) (c.loop-turn.invariant.1 ds w);
    }
