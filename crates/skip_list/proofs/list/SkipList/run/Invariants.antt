-- What the loop of `run` keeps from turn to turn.
use Rattle.std.proofs.Common.{◌≡◌, List, map, take}
use Rattle.order.specs.Deeds.{Deed}
use Rattle.skip_list.specs.History.{Told}
use Rattle.skip_list.specs.Play.{Runs, called}
use Rattle.skip_list.proofs.list.SkipList.run.Given as goal

abbrev pub invariant-loop-turn : goal.invariant-loop-turn
invariant-loop-turn g l =
    (map called l.turns ≡ map called l.initial.turns)
    × ((ds : List (Deed _)) → Told ds l.initial.self.lent → Runs ds l.initial.self.lent (take l.turn-index l.turns) l.self.lent)
