-- A move has one answer and leaves one order of the book.
use Rattle.std.proofs.Common.{◌≡◌, ℕ, ◌+◌, ◌<◌, ◌≤◌, List, [], ◌∷◌, ◌++◌, length, Ok, Err, Result, refl, ap, ◌∙◌, subst, inr, ⊎_elim, arith}
use Rattle.std.specs.List.{insert, remove}
use Rattle.std.proofs.lemmas.List.Edits.{length-remove}
use Rattle.order.specs.declared.keys.RuleNumber.{RuleNumber}
use Rattle.order.specs.Order.{At, Distinct}
use Rattle.order.specs.declared.fault.SetFault.TheVariants.{PastEnd}
use Rattle.book.specs.declared.fault.BookFault.{BookFault}
use Rattle.book.specs.declared.fault.BookFault.TheVariants.{Rules}
use Rattle.book.specs.Books.{Moves}
use Rattle.book.specs.Pages.{Pages, key, reordered}
use Rattle.book.proofs.Moving.{put_last}
use Rattle.worked.specs.Cases.{Only}

module _ (v : Pages) (n i place : ℕ) (low : n ≤ 255) (at : At v.numbers.order i (key n)) where
  -- the pages once the number at place j has moved
  abbrev left_by : ℕ → Pages
  left_by j = reordered v (insert (remove v.numbers.order j) place (key n))

  moved : Distinct v.numbers.order → place < length v.numbers.order → Only (λ r w. Moves n place r v w) (Ok place) (left_by i)
  moved apart within = (((low, (i, at), within, refl), (i, at, refl)), once)
    where
      once : (r : Result ℕ BookFault) (w : Pages) → Moves n place r v w → (r ≡ Ok place) × (w ≡ left_by i)
      once (Ok p) w ((_, _, _, is), (j, here, left)) = (ap (λ (k : ℕ). Ok k) is, left ∙ ap left_by (apart j i (key n) here at))
      once (Err f) w (fault, _) =
          absurd (⊎_elim (λ high. omega (arith, high.1)) (⊎_elim (λ gone. gone.2 i at) (λ past. omega (arith, past.3))) fault)

  -- at the last place it stands behind the others
  pub moved_last : Distinct v.numbers.order → place + 1 ≡ length v.numbers.order
      → Only (λ r w. Moves n place r v w) (Ok place) (reordered v (remove v.numbers.order i ++ key n ∷ []))
  moved_last apart last =
      let rest = remove v.numbers.order i in
      let len = length-remove v.numbers.order i at.0 in
      let is : length rest ≡ place = omega arith in
      let behind : insert rest place (key n) ≡ rest ++ key n ∷ [] = subst (λ (p : ℕ). insert rest p (key n) ≡ rest ++ key n ∷ []) is (put_last rest (key n)) in
      subst (λ (xs : List RuleNumber). Only (λ r w. Moves n place r v w) (Ok place) (reordered v xs)) behind (moved apart (omega arith))

  pub moved_past : length v.numbers.order ≤ place → Only (λ r w. Moves n place r v w) (Err (Rules PastEnd)) v
  moved_past beyond = ((inr (inr (refl, low, (i, at), beyond)), refl), once)
    where
      once : (r : Result ℕ BookFault) (w : Pages) → Moves n place r v w → (r ≡ Err (Rules PastEnd)) × (w ≡ v)
      once (Ok p) w ((_, _, within, _), _) = absurd (omega arith)
      once (Err f) w (fault, left) = (
        ap (λ (e : BookFault). Err e)
            (⊎_elim (λ high. absurd (omega (arith, high.1))) (⊎_elim (λ gone. absurd (gone.2 i at)) (λ past. past.0)) fault),
        left,
      )
