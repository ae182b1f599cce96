-- A line's turns go on with the panel's history, and so does a dialogue.
use Rattle.std.proofs.Common.{◌≡◌, ℕ, List, [], ◌∷◌, ◌++◌, Ok, Result, sym, refl, ap, ◌∙◌, subst, ⊎_elim, append-nil, arith, length-append}
use Rattle.order.specs.declared.keys.RuleNumber.{RuleNumber}
use Rattle.order.specs.declared.keys.TrainTag.{TrainTag}
use Rattle.order.specs.declared.set.OrderedSet.{Ghosts}
use Rattle.book.specs.Law.{Follows, GoesOn}
use Rattle.book.specs.Pages.{listing as ruled_numbers}
use Rattle.book.specs.Yards.{Board}
use Rattle.book.specs.declared.call.Turn.{Turn}
use Rattle.book.specs.declared.fault.BookFault.TheVariants.{BadRule}
use Rattle.book.proofs.Departing.{go_on, route_law}
use Rattle.book.proofs.Following.{as_history, begins_at}
use Rattle.line.specs.Answers.{list_text, printed, refused_text}
use Rattle.line.specs.Consoles.{Acted, Answered, stand}
use Rattle.line.specs.Grammar.{Asked, Says, listing}
use Rattle.line.specs.Printing.{Prints}
use Rattle.line.specs.Replies.{Called, Performs, Replies, Stand, Unfit, drawing}
use Rattle.line.specs.Dialogues.{Exchange, Dialogue, Vacant}
use Rattle.line.specs.declared.answer.Answer.{Answer}
use Rattle.line.specs.declared.console.Console.{Console}
use Rattle.line.specs.declared.fault.LineFault.{LineFault}
use Rattle.line.specs.declared.fault.LineFault.TheVariants.{Book, BadLine}

stays : (ts : List Turn) (v w : Board) → ts ≡ [] → w ≡ v → GoesOn ts v w
stays ts v w none same start h follows =
    let e : h ≡ h ++ ts = sym (append-nil h) ∙ ap (λ (l : List Turn). h ++ l) (sym none) in
    let f = as_history start h (h ++ ts) w e (subst (λ (b : Board). Follows start h b) (sym same) follows) in
    (f, route_law start (h ++ ts) w f)

replies_on : (a : Asked) (draw : ℕ) (text : List ℕ) (ts : List Turn) (v w : Board) → Replies a draw text ts v w → GoesOn ts v w
replies_on a draw text ts v w rep =
    ⊎_elim (λ (c : Called a draw text ts v w). subst (λ (l : List Turn). GoesOn l v w) (sym c.turns) (λ start h follows. go_on start h v follows w c.call c.answer c.carries))
    (λ rest. ⊎_elim (λ (u : Unfit a × (text ≡ refused_text (Book BadRule)) × (ts ≡ []) × (w ≡ v)). stays ts v w u.2 u.3)
    (λ (u : (a ≡ listing) × (text ≡ list_text (ruled_numbers v.book)) × (ts ≡ []) × (w ≡ v)). stays ts v w u.2 u.3) rest) rep

pub performs_on : (line text : List ℕ) (ts : List Turn) (u x : Stand) → Performs line text ts u x → GoesOn ts u.board x.board
performs_on line text ts u x did =
    ⊎_elim
    (λ (d : (a : Asked) × Says line a × (x.state ≡ drawing a u.state) × Replies a x.state text ts u.board x.board). replies_on d.0 x.state text ts u.board x.board d.3)
    (λ (d : ((a : Asked) → Says line a → ⊥) × (text ≡ refused_text BadLine) × (ts ≡ []) × (x ≡ u)). stays ts u.board x.board d.2 (ap (λ (s : Stand). s.board) d.3))
    did

-- a dialogue from a vacant start is a lawful history
pub dialogue_follows : (start : Stand) (past : List Exchange) (ts : List Turn) (x : Stand) → Vacant start → Dialogue start past ts x → Follows start.board ts x.board
dialogue_follows start [] ts x vacant (none, same) =
    as_history start.board [] ts x.board (sym none) (begins_at start.board x.board (ap (λ (s : Stand). s.board) same) vacant.0 vacant.1)
dialogue_follows start (e ∷ past) ts x vacant (u, before, made, so_far, did, is) =
    as_history start.board (before ++ made) ts x.board (sym is)
    (performs_on e.line e.text made u x did start.board before (dialogue_follows start past before u vacant so_far)).0

module _ {R Y : Type 0} (r : Ghosts R RuleNumber) (y : Ghosts Y TrainTag) (p q : Console R Y) (line : List ℕ) where
  pub answered : (outcome : Result Answer LineFault) (out left : List ℕ) (n : ℕ)
      → Acted r y p q line (printed outcome) → Prints (printed outcome) out left n → Answered r y p q line out left (Ok n)
  answered outcome out left n acted prints =
      let text = printed outcome in
      let p' = prints (omega (arith, length-append text (10 ∷ []), acted.brief)) in
      let on = performs_on line text acted.turns (stand r y p) (stand r y q) acted.performs in
      record {
        text = text;
        acted = acted;
        length_is = ap (λ k. Ok k) p'.0;
        left_is = p'.1;
        goes_on = on;
        dialogue = λ start past ts so_far. (stand r y p, ts, acted.turns, so_far, acted.performs, refl);
        law = λ start past ts vacant so_far. (on start.board ts (dialogue_follows start past ts (stand r y p) vacant so_far)).1;
      }
