-- What a line does on a panel: the call that it makes, how its answer is printed, and the turns that it adds to the history.
--     Calls a draw call            what is asked is this call, made with this draw
--     Unfit a                      what is asked is an add whose rule is not lawful
--     Shows answer text            how the panel's answer is printed
--     Replies a draw text ts v w   what is asked is answered by the text, adds the turns ts, and leads from v to w
--     drawing a state              the state of the draws after it: an add, a move and a join take one
--     Performs line text ts u x    the line does this, from the stand u to the stand x
use Rattle.std.specs.Prelude.{◌≡◌, ℕ, ◌⊎◌, List, [], ◌∷◌, Some, None, Ok, Err, Result}
use Rattle.draws.specs.Draws.{drawn}
use Rattle.book.specs.declared.call.Answer as answers
use Rattle.book.specs.declared.call.Call.{Call}
use Rattle.book.specs.declared.call.Call.TheVariants.{Add, Drop, Move, Join, Send}
use Rattle.book.specs.declared.call.Turn.{Turn}
use Rattle.book.specs.declared.fault.BookFault.{BookFault}
use Rattle.book.specs.declared.fault.BookFault.TheVariants.{BadRule}
use Rattle.book.specs.declared.rule.Rule.{Rule}
use Rattle.book.specs.Calls.{Carries, turn}
use Rattle.book.specs.Pages.{listing as ruled_numbers}
use Rattle.book.specs.Rules.{Fit, Makes}
use Rattle.book.specs.Yards.{Board}
use Rattle.line.specs.Answers.{list_text, placed_text, refused_text, sent_text, stays_text}
use Rattle.line.specs.Grammar.{Asked, Says, adding, dropping, joining, listing, moving, sending}
use Rattle.line.specs.declared.fault.LineFault.TheVariants.{Book, BadLine}

abbrev pub Calls : Asked → ℕ → Call → Type 0
Calls (adding a) draw call = (rule : Rule) × Makes a.first a.last a.classes a.route (Ok rule) × (call ≡ Add a.number rule a.place draw)
Calls (dropping n) draw call = call ≡ Drop n
Calls (moving n p) draw call = call ≡ Move n p draw
Calls (joining tag) draw call = call ≡ Join tag draw
Calls (sending t) draw call = call ≡ Send t
Calls listing draw call = ⊥

abbrev pub Unfit : Asked → Type 0
Unfit (adding a) = Fit a.first a.last a.classes a.route → ⊥
Unfit (dropping n) = ⊥
Unfit (moving n p) = ⊥
Unfit (joining tag) = ⊥
Unfit (sending t) = ⊥
Unfit listing = ⊥

-- no line asks for a decision alone
abbrev pub Shows : Result answers.Answer BookFault → List ℕ → Type 0
Shows (Ok (answers.TheVariants.Placed p)) text = text ≡ placed_text p
Shows (Ok (answers.TheVariants.Decided d)) text = ⊥
Shows (Ok (answers.TheVariants.Sent (Some d))) text = text ≡ sent_text d.0 d.1 d.2
Shows (Ok (answers.TheVariants.Sent None)) text = text ≡ stays_text
Shows (Err f) text = text ≡ refused_text (Book f)

-- a call was made: it is the one turn
pub record Called (a : Asked) (draw : ℕ) (text : List ℕ) (ts : List Turn) (v w : Board) : Type 0 where
  pub call : Call
  pub answer : Result answers.Answer BookFault
  pub calls : Calls a draw call
  pub carries : Carries call answer v w
  pub shows : Shows answer text
  pub turns : ts ≡ turn call answer ∷ []

-- no call was made, and nothing changed: a rule was not lawful, or the numbers that have a rule were listed
abbrev pub Replies : Asked → ℕ → List ℕ → List Turn → Board → Board → Type 0
Replies a draw text ts v w =
    Called a draw text ts v w
    ⊎ ((Unfit a × (text ≡ refused_text (Book BadRule)) × (ts ≡ []) × (w ≡ v))
    ⊎ ((a ≡ listing) × (text ≡ list_text (ruled_numbers v.book)) × (ts ≡ []) × (w ≡ v)))

abbrev pub drawing : Asked → ℕ → ℕ
drawing (adding a) state = drawn state
drawing (dropping n) state = state
drawing (moving n p) state = drawn state
drawing (joining tag) state = drawn state
drawing (sending t) state = state
drawing listing state = state

-- the panel's meaning, and the state of the draws
pub record Stand : Type 0 where
  pub board : Board
  pub state : ℕ

-- a line that says nothing is refused and does nothing
abbrev pub Performs : List ℕ → List ℕ → List Turn → Stand → Stand → Type 0
Performs line text ts u x =
    ((a : Asked) × Says line a × (x.state ≡ drawing a u.state) × Replies a x.state text ts u.board x.board)
    ⊎ (((a : Asked) → Says line a → ⊥) × (text ≡ refused_text BadLine) × (ts ≡ []) × (x ≡ u))
