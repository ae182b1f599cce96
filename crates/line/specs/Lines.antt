-- What the reader answers, from the bytes that are left.
use Rattle.std.specs.Prelude.{ℕ, cond, List, [], ◌∷◌, length, Some, None, Option, ◌==◌}
use Rattle.std.specs.Borrow.{Bor}
use Rattle.line.specs.Grammar.{Asked, adding, asked, dropping, joining, listing, moving, sending}
use Rattle.line.specs.States.{walked}
use Rattle.line.specs.Words.{word, rest}
use Rattle.line.specs.declared.command.Command.{Command}
use Rattle.line.specs.declared.field.State.{State}
use Rattle.line.specs.declared.field.State.TheVariants.{Number, Zero, Digits, Capitals, Risen, Byte, One, Bad}

abbrev pub heard : Option Command → Option Asked
heard (Some c) = Some (asked c)
heard None = None

abbrev pub held : Option (Bor (List ℕ)) → Option (List ℕ)
held (Some bs) = Some bs.now
held None = None

-- the state after a space and a word
abbrev pub ended : State → List ℕ → State
ended s [] = Bad
ended s (b ∷ bs) = cond (b == 32) (walked s (word bs)) Bad

-- what is left then
abbrev pub next : List ℕ → List ℕ
next [] = []
next (b ∷ bs) = cond (b == 32) (rest bs) (b ∷ bs)

-- the word after the first byte
abbrev pub field : List ℕ → List ℕ
field [] = []
field (b ∷ bs) = word bs

abbrev pub number_of : State → Option ℕ
number_of Number = None
number_of Zero = Some 0
number_of (Digits n) = Some n
number_of Capitals = None
number_of (Risen b) = None
number_of Byte = None
number_of (One b) = None
number_of Bad = None

abbrev pub capitals_of : State → List ℕ → Option (List ℕ)
capitals_of Number w = None
capitals_of Zero w = None
capitals_of (Digits n) w = None
capitals_of Capitals w = None
capitals_of (Risen b) w = Some w
capitals_of Byte w = None
capitals_of (One b) w = None
capitals_of Bad w = None

abbrev pub mark_of : State → Option ℕ
mark_of Number = None
mark_of Zero = None
mark_of (Digits n) = None
mark_of Capitals = None
mark_of (Risen b) = None
mark_of Byte = None
mark_of (One b) = Some b
mark_of Bad = None

unfoldable pub a_number : List ℕ → Option ℕ
a_number left = number_of (ended Number left)

unfoldable pub a_capitals : List ℕ → Option (List ℕ)
a_capitals left = capitals_of (ended Capitals left) (field left)

unfoldable pub a_mark : List ℕ → Option ℕ
a_mark left = mark_of (ended Byte left)

abbrev pub bind : {A B : Type 0} → Option A → (A → Option B) → Option B
bind None k = None
bind (Some x) k = k x

abbrev pub end : List ℕ → Asked → Option Asked
end left c = cond (length left == 0) (Some c) None

-- the letter's fields one after the other, and then the end
abbrev pub said : ℕ → List ℕ → Option Asked
said l x =
    (cond (l == 65)
    (bind (a_number x) (λ n.
    bind (a_number (next x)) (λ p.
    bind (a_number (next (next x))) (λ f.
    bind (a_number (next (next (next x)))) (λ t.
    bind (a_capitals (next (next (next (next x))))) (λ s.
    bind (a_number (next (next (next (next (next x)))))) (λ r.
    end (next (next (next (next (next (next x)))))) (adding (record { number = n; place = p; first = f; last = t; classes = s; route = r }))))))))
    )
    (cond (l == 68) (bind (a_number x) (λ n. end (next x) (dropping n)))
    (cond (l == 77) (bind (a_number x) (λ n. bind (a_number (next x)) (λ p. end (next (next x)) (moving n p))))
    (cond (l == 84) (bind (a_mark x) (λ b. bind (a_number (next x)) (λ m. end (next (next x)) (joining (record { class = b; number = m })))))
    (cond (l == 83) (bind (a_number x) (λ t. end (next x) (sending t)))
    (cond (l == 76) (end x listing) None))))))
