-- One write after another.
use Rattle.std.proofs.Common.{ℕ, List, ◌++◌, length, ap, ◌∙◌, append_assoc, arith, length-append}
use Rattle.line.specs.Pages.{Puts}
use Rattle.line.specs.declared.page.Page.{Page}

pub puts_more : (p q r : Page) (a b : List ℕ) → Puts p a q → Puts q b r → Puts p (a ++ b) r
puts_more p q r a b f g room =
    let first = f (omega (arith, length-append a b)) in
    let second = g (omega (arith, length-append a b, ap length first, length-append p.bytes.items a)) in
    second ∙ ap (λ (l : List ℕ). l ++ b) first ∙ append_assoc _ a b
