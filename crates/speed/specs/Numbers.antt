-- Which set, and which work, a number stands for.
use Rattle.std.specs.Prelude.{ℕ, ◌==◌, cond, List, [], ◌∷◌, slice_index_or}
use Rattle.speed.specs.declared.kind.Kind.{Kind}
use Rattle.speed.specs.declared.kind.Kind.TheVariants.{PlainRow, RowList}
use Rattle.speed.specs.declared.work.Work.{Work}
use Rattle.speed.specs.declared.work.Work.TheVariants.{Fill, FrontToEnd, IndexOf, KeyOf, RemoveInsert, RemovePush, SpliceSixteen, Walk}

abbrev pub kind_of : ℕ → Kind
kind_of number = cond (number == 0) RowList PlainRow

-- the works by their numbers, from 0; any number past them is the filling alone
abbrev pub works : List Work
works = Fill ∷ IndexOf ∷ KeyOf ∷ RemoveInsert ∷ RemovePush ∷ FrontToEnd ∷ SpliceSixteen ∷ Walk ∷ []

abbrev pub work_of : ℕ → Work
work_of number = slice_index_or works number Fill
