-- Keys copied one cell on to open a gap, or one cell back to close one.
use Rattle.std.proofs.Common.{◌≡◌, ℕ, ◌+◌, ◌-◌, ◌<◌, ◌≤◌, ◌≢◌, List, length, get_or, take, set, sym, ap, ◌∙◌, inl, inr, arith}
use Rattle.std.specs.List.{insert, remove, CopiedTo, SameBelow}
use Rattle.std.proofs.lemmas.List.Edits.{length-insert, get_or-insert_at, get_or-insert_below, get_or-insert_above, length-remove, get_or-remove_below, get_or-remove_above}
use Rattle.std.proofs.lemmas.List.{length-set, length-take-le, get_or-take, get_or-set_same, get_or-set_other, same_lists}
use Rattle.std.proofs.lemmas.Bool.{cases_order, cases_lt}

module _ {X : Type 0} (xs ys : List X) (i n : ℕ) where
  -- x written into the gap
  pub opened : (x : X) → i ≤ n → n < length xs → length ys ≡ length xs → CopiedTo xs ys i (i + 1) (n - i) → SameBelow xs ys (i + 1)
      → take (n + 1) (set ys i x) ≡ insert (take n xs) i x
  opened x h l long moved front =
      let t : length (take n xs) ≡ n = length-take-le n xs (omega arith) in
      let s : length (set ys i x) ≡ length xs = length-set ys i x ∙ long in
      let u : length (take (n + 1) (set ys i x)) ≡ n + 1 = length-take-le (n + 1) (set ys i x) (omega arith) in
      let v : length (insert (take n xs) i x) ≡ length (take n xs) + 1 = length-insert (take n xs) i x (omega arith) in
      let w : i ≤ length (take n xs) = omega arith in
      same_lists (take (n + 1) (set ys i x)) (insert (take n xs) i x) (omega arith)
      (λ k d b. let c : k < n + 1 = omega arith in get_or-take (n + 1) (set ys i x) k d c ∙ elim (cases_order k i) [
        | inl q ↦ ap (λ (m : ℕ). get_or (set ys i x) m d) q ∙ get_or-set_same ys i x d (omega arith) ∙ sym (ap (λ (m : ℕ). get_or (insert (take n xs) i x) m d) q ∙ get_or-insert_at (take n xs) i x d w)
        | inr (inl q) ↦ let ne : k ≢ i = omega arith in get_or-set_other ys i k x d ne ∙ front k d (omega arith) ∙ sym (get_or-insert_below (take n xs) i x d k q w ∙ get_or-take n xs k d (omega arith))
        | inr (inr q) ↦
            let ne : k ≢ i = omega arith in
            let e : i + (k - (i + 1)) ≡ k - 1 = omega arith in
            let f : k ≡ (k - 1) + 1 = omega arith in
            get_or-set_other ys i k x d ne ∙ moved k d (omega arith) (omega arith) ∙ ap (λ (m : ℕ). get_or xs m d) e
            ∙ sym (ap (λ (m : ℕ). get_or (insert (take n xs) i x) m d) f ∙ get_or-insert_above (take n xs) i x d (k - 1) (omega arith) w ∙ get_or-take n xs (k - 1) d (omega arith))
      ])

  -- nothing is left of what stood there
  pub closed : i < n → n ≤ length xs → length ys ≡ length xs → CopiedTo xs ys (i + 1) i (n - (i + 1)) → SameBelow xs ys i
      → take (n - 1) ys ≡ remove (take n xs) i
  closed h l long moved front =
      let t : length (take n xs) ≡ n = length-take-le n xs l in
      let u : length (take (n - 1) ys) ≡ n - 1 = length-take-le (n - 1) ys (omega (arith, long)) in
      let v : length (remove (take n xs) i) + 1 ≡ length (take n xs) = length-remove (take n xs) i (omega arith) in
      let w : i < length (take n xs) = omega arith in
      same_lists (take (n - 1) ys) (remove (take n xs) i) (omega arith)
      (λ k d b. let c : k < n - 1 = omega arith in get_or-take (n - 1) ys k d c ∙ elim (cases_lt k i) [
        | inl q ↦ front k d q ∙ sym (get_or-remove_below (take n xs) i d k q w ∙ get_or-take n xs k d (omega arith))
        | inr q ↦
            let e : i + 1 + (k - i) ≡ k + 1 = omega arith in
            moved k d q (omega arith) ∙ ap (λ (m : ℕ). get_or xs m d) e ∙ sym (get_or-remove_above (take n xs) i d k q w ∙ get_or-take n xs (k + 1) d (omega arith))
      ])
