-- What is printed of an answer.
use Rattle.std.specs.Prelude.{ℕ, List, [], ◌∷◌, ◌++◌, Some, None, Ok, Err, Result, map, codes, decimal}
use Rattle.order.specs.declared.keys.TrainTag.{TrainTag}
use Rattle.line.specs.Faults.{line_number, line_word}
use Rattle.line.specs.Words.{spread}
use Rattle.line.specs.declared.answer.Answer.{Answer}
use Rattle.line.specs.declared.answer.Answer.TheVariants.{Placed, Sent, Listed}
use Rattle.line.specs.declared.fault.LineFault.{LineFault}

-- ok and a place
abbrev pub placed_text : ℕ → List ℕ
placed_text place = codes "ok " ++ decimal place

-- a tag, by a rule's number, to a route
abbrev pub sent_text : TrainTag → ℕ → ℕ → List ℕ
sent_text tag number route = (tag.class ∷ []) ++ ((32 ∷ []) ++ (decimal tag.number ++ (codes " by " ++ (decimal number ++ (codes " to " ++ decimal route)))))

-- numbers with one space between them, or empty
abbrev pub list_text : List ℕ → List ℕ
list_text [] = codes "empty"
list_text (n ∷ ns) = decimal n ++ spread (map decimal ns)

-- no, a refusal's number and its word
abbrev pub refused_text : LineFault → List ℕ
refused_text f = codes "no " ++ (decimal (line_number f) ++ ((32 ∷ []) ++ line_word f))

abbrev pub stays_text : List ℕ
stays_text = codes "none"

abbrev pub printed_answer : Answer → List ℕ
printed_answer (Placed place) = placed_text place
printed_answer (Sent (Some d)) = sent_text d.0 d.1 d.2
printed_answer (Sent None) = stays_text
printed_answer (Listed numbers) = list_text numbers.items

-- a refusal is printed too
abbrev pub printed : Result Answer LineFault → List ℕ
printed (Ok answer) = printed_answer answer
printed (Err f) = refused_text f
