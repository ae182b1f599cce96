use Rattle.std.proofs.Common.{◌≤◌, List}
use Rattle.order.specs.Deeds.{Deed}
use Rattle.layers.proofs.Splices.{Tale, Underway}
use Rattle.layers.proofs.above.splice.Given as goal

abbrev pub invariant-loop-i : goal.invariant-loop-i
invariant-loop-i g l =
    (l.inserted ≤ l.i)
    × Underway (g.S.OrderedSet.meaning l.initial.set) l.place l.keys (g.S.OrderedSet.meaning l.set) l.before l.inserted l.i
    × ((ds : List (Deed g.row.K.Denot)) → g.S.OrderedSet.told ds (g.S.OrderedSet.body l.initial.set) → Tale g.S.OrderedSet.told ds l.place l.keys l.draws (g.S.OrderedSet.body l.set) l.before l.inserted l.i)
