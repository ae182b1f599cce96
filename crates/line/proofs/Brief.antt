-- What is printed has room with its newline in 1,024 bytes.
use Rattle.std.proofs.Common.{◌≡◌, ℕ, ◌*◌, ◌^◌, ◌<◌, ◌≤◌, List, [], ◌∷◌, map, length, is_some, decimal, Option, sym, subst, ⊎_elim, arith, length-append}
use Rattle.std.proofs.lemmas.Fmt.{length-decimal-le}
use Rattle.std.proofs.lemmas.Bool.{cases_lt, cond_both}
use Rattle.std.specs.List.{AllByRecursion as All}
use Rattle.order.specs.Faults.{set_number}
use Rattle.order.specs.declared.fault.SetFault.{SetFault}
use Rattle.order.specs.declared.fault.SetFault.TheVariants.{Present, NoPredecessor, PastEnd, Full, Uneven}
use Rattle.order.specs.declared.keys.RuleNumber.{RuleNumber}
use Rattle.order.specs.declared.keys.TrainTag.{TrainTag}
use Rattle.book.specs.Faults.{fault_number, fault_word}
use Rattle.book.specs.Pages.{recorded, ruled}
use Rattle.book.specs.declared.fault.BookFault.{BookFault}
use Rattle.book.specs.declared.fault.BookFault.TheVariants as books
use Rattle.book.specs.declared.rule.Rule.{Rule}
use Rattle.book.proofs.Places.{past_recorded}
use Rattle.line.specs.Answers.{list_text, placed_text, refused_text, sent_text}
use Rattle.line.specs.Faults.{line_number, line_word}
use Rattle.line.specs.Words.{spread}
use Rattle.line.specs.declared.fault.LineFault.{LineFault}
use Rattle.line.specs.declared.fault.LineFault.TheVariants.{Book, BadLine, SmallOut}

digits : (n : ℕ) → n < 2 ^ 32 → length (decimal n) ≤ 10
digits n h = length-decimal-le 10 n (omega arith) (omega arith) (omega arith)

pub placed_brief : (place : ℕ) → place < 2 ^ 32 → length (placed_text place) ≤ 1023
placed_brief place h = omega (arith, digits place h)

pub sent_brief : (tag : TrainTag) (number route : ℕ) → tag.number < 2 ^ 32 → number < 2 ^ 32 → route < 2 ^ 32 → length (sent_text tag number route) ≤ 1023
sent_brief tag number route a b c = simp length-append (omega (arith, digits tag.number a, digits number b, digits route c))

-- refusals
set_small : (f : SetFault) → set_number f < 2 ^ 32
set_small Present = omega arith
set_small NoPredecessor = omega arith
set_small PastEnd = omega arith
set_small Full = omega arith
set_small Uneven = omega arith

book_small : (f : BookFault) → (fault_number f < 2 ^ 32) × (length (fault_word f) ≤ 5)
book_small books.BadRule = (omega arith, omega arith)
book_small books.BadNumber = (omega arith, omega arith)
book_small books.NoRule = (omega arith, omega arith)
book_small books.BadTurnout = (omega arith, omega arith)
book_small books.BadTrain = (omega arith, omega arith)
book_small books.NoTrain = (omega arith, omega arith)
book_small (books.Rules f) = (set_small f, omega arith)
book_small (books.Yard f) = (set_small f, omega arith)

line_small : (f : LineFault) → (line_number f < 2 ^ 32) × (length (line_word f) ≤ 5)
line_small (Book f) = book_small f
line_small BadLine = (omega arith, omega arith)
line_small SmallOut = (omega arith, omega arith)

pub refused_brief : (f : LineFault) → length (refused_text f) ≤ 1023
refused_brief f = let s = line_small f in simp length-append (omega (arith, digits (line_number f) s.0, s.1))

-- at most 256 numbers of at most three digits, with a space between them
three : (n : ℕ) → n < 256 → length (decimal n) ≤ 3
three n h = length-decimal-le 3 n (omega arith) (omega arith) (omega arith)

spread_short : (ns : List ℕ) → All (λ n. n < 256) ns → length (spread (map decimal ns)) ≤ 4 * length ns
spread_short [] h = omega arith
spread_short (n ∷ ns) h = omega (arith, spread_short ns h.1, three n h.0, length-append (decimal n) (spread (map decimal ns)))

list_brief : (ns : List ℕ) → length ns ≤ 256 → All (λ n. n < 256) ns → length (list_text ns) ≤ 1023
list_brief [] l h = omega arith
list_brief (n ∷ ns) l h = omega (arith, spread_short ns h.1, three n h.0, length-append (decimal n) (spread (map decimal ns)))

-- a table of 256 records lists no other numbers
ruled_small : (records : List (Option Rule)) → length records ≡ 256 → (ks : List RuleNumber) → All (λ n. n < 256) (ruled (recorded records) ks)
ruled_small records whole [] = tt
ruled_small records whole (k ∷ ks) =
    ⊎_elim
    (λ (l : k.value < 256). cond_both (is_some (recorded records k.value)) _ _ (λ (ns : List ℕ). All (λ n. n < 256) ns) (λ _. (l, ruled_small records whole ks)) (λ _. ruled_small records whole ks))
    (λ (l : 256 ≤ k.value). let e = past_recorded records whole k.value (omega arith) in rw e (ruled_small records whole ks))
    (cases_lt k.value 256)

pub listed_brief : (records : List (Option Rule)) → length records ≡ 256 → (ks : List RuleNumber) (ns : List ℕ) → ns ≡ ruled (recorded records) ks → length ns ≤ 256 → length (list_text ns) ≤ 1023
listed_brief records whole ks ns lists most = list_brief ns most (subst (All (λ n. n < 256)) (sym lists) (ruled_small records whole ks))
