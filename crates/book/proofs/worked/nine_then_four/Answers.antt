-- An empty book with room turns neither rule down.
use Rattle.book.proofs.Working.{both_in}
use Rattle.book.proofs.worked.nine_then_four.Goals as goal

pub returns : goal.returns
returns g c = λ vacant.
    both_in _ _ c.in_ok-nine.nine vacant _ c.in_ok-add.ensures.adds c.in_ok-nine.four _ _
    c.in_ok-add-2.ensures.adds c.in_ok-nine.ensures.0 c.in_ok-nine.ensures.1
