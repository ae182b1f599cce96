-- How the reader's state changes with a byte.
use Rattle.std.specs.Prelude.{ℕ, ◌+◌, ◌-◌, ◌*◌, ◌^◌, cond, List, [], ◌∷◌, ◌==◌, nat_lt}
use Rattle.line.specs.declared.field.Class.{Class}
use Rattle.line.specs.declared.field.Class.TheVariants.{Space, Digit, Capital, Other}
use Rattle.line.specs.declared.field.State.{State}
use Rattle.line.specs.declared.field.State.TheVariants.{Number, Zero, Digits, Capitals, Risen, Byte, One, Bad}

abbrev pub classed : ℕ → Class
classed b = cond (b == 32) Space (cond (nat_lt b 48) Other (cond (nat_lt b 58) (Digit (b - 48)) (cond (nat_lt b 65) Other (cond (nat_lt b 91) Capital Other))))

abbrev pub moved : Class → State → ℕ → State
moved Space s b = Bad
moved (Digit d) Number b = cond (d == 0) Zero (Digits d)
moved (Digit d) Zero b = Bad
moved (Digit d) (Digits n) b = cond (nat_lt (n * 10 + d) (2 ^ 16)) (Digits (n * 10 + d)) Bad
moved (Digit d) Capitals b = Bad
moved (Digit d) (Risen a) b = Bad
moved (Digit d) Byte b = One b
moved (Digit d) (One a) b = Bad
moved (Digit d) Bad b = Bad
moved Capital Number b = Bad
moved Capital Zero b = Bad
moved Capital (Digits n) b = Bad
moved Capital Capitals b = Risen b
moved Capital (Risen a) b = cond (nat_lt a b) (Risen b) Bad
moved Capital Byte b = One b
moved Capital (One a) b = Bad
moved Capital Bad b = Bad
moved Other Number b = Bad
moved Other Zero b = Bad
moved Other (Digits n) b = Bad
moved Other Capitals b = Bad
moved Other (Risen a) b = Bad
moved Other Byte b = One b
moved Other (One a) b = Bad
moved Other Bad b = Bad

abbrev pub stepped : State → ℕ → State
stepped s b = moved (classed b) s b

abbrev pub walked : State → List ℕ → State
walked s [] = s
walked s (b ∷ bs) = walked (stepped s b) bs
