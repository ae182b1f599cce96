-- What the links of a level lead through.
use Rattle.std.proofs.Common.{◌≡◌, ℕ, suc, ◌+◌, ◌<◌, ◌≤◌, Bool, true, false, cond, List, [], ◌∷◌, ◌++◌, length, get_or, take, drop, sym, refl, ap, ◌∙◌, subst, inl, inr, append-nil, arith, lt-ltb}
use Rattle.std.proofs.lemmas.Bool.{cases_Bool}
use Rattle.links.specs.declared.Link.{Link}
use Rattle.links.specs.declared.Row.{Row}
use Rattle.links.specs.declared.Way.TheVariants.{Ahead, Back}
use Rattle.links.specs.Cell.{levels, view}
use Rattle.links.specs.Chain.{nearest, Away, reach, at}
use Rattle.links.specs.Ring.{Level, Ring, Holds, order, turned, walk}
use Rattle.links.specs.Report.{those, total, LevelsLead}
use Rattle.links.proofs.Chains.{hit, miss}
use Rattle.links.proofs.Orders.{split, length_order, length_turned, here_row}

pub those_hit : (p : ℕ → Bool) (r : ℕ) (rs : List ℕ) → p r ≡ true → those p (r ∷ rs) ≡ r ∷ those p rs
those_hit p r rs e = ap (λ v. cond v (r ∷ those p rs) (those p rs)) e

pub those_miss : (p : ℕ → Bool) (r : ℕ) (rs : List ℕ) → p r ≡ false → those p (r ∷ rs) ≡ those p rs
those_miss p r rs e = ap (λ v. cond v (r ∷ those p rs) (those p rs)) e

visits : (p : ℕ → Bool) (f : ℕ → Link) (us : List ℕ) (r : ℕ) → (f r).row ≡ (nearest p us).row → Away p f us → walk f (suc (length (those p us))) r ≡ those p us ++ 0 ∷ []
visits p f [] r e a = ap (λ x. x ∷ []) e
visits p f (u ∷ us) r e a = elim (cases_Bool (p u)) [
  | inl y ↦ subst (λ x. walk f (suc (length x)) r ≡ x ++ 0 ∷ []) (sym (those_hit p u us y))
      (let to : (f r).row ≡ u = e ∙ ap (λ (k : Link). k.row) (hit p u us y) in
      ap (λ x. x ∷ walk f (suc (length (those p us))) x) to ∙ ap (λ xs. u ∷ xs) (visits p f us u (ap (λ (k : Link). k.row) (a.0 y)) a.1))
  | inr y ↦ subst (λ x. walk f (suc (length x)) r ≡ x ++ 0 ∷ []) (sym (those_miss p u us y)) (visits p f us r (e ∙ ap (λ (k : Link). k.row) (miss p u us y)) a.1)
]

-- those of a list turned round
those_turned : (p : ℕ → Bool) (us zs : List ℕ) → those p (turned us zs) ≡ turned (those p us) (those p zs)
those_turned p [] zs = refl
those_turned p (u ∷ us) zs = elim (cases_Bool (p u)) [
  | inl y ↦ those_turned p us (u ∷ zs) ∙ ap (λ x. turned (those p us) x) (those_hit p u zs y) ∙ sym (ap (λ x. turned x (those p zs)) (those_hit p u us y))
  | inr y ↦ those_turned p us (u ∷ zs) ∙ ap (λ x. turned (those p us) x) (those_miss p u zs y) ∙ sym (ap (λ x. turned x (those p zs)) (those_miss p u us y))
]

totals : (p : ℕ → Bool) (f : ℕ → Link) (us : List ℕ) (r m : ℕ) → (f r).row ≡ (nearest p us).row → (f r).count ≡ m + (nearest p us).count → Away p f us →
    total f (length (those p us)) r ≡ m + (length us + 1)
totals p f [] r m e c a = c
totals p f (u ∷ us) r m e c a = elim (cases_Bool (p u)) [
  | inl y ↦ subst (λ x. total f (length x) r ≡ m + (length (u ∷ us) + 1)) (sym (those_hit p u us y))
      (let to : (f r).row ≡ u = e ∙ ap (λ (k : Link). k.row) (hit p u us y) in
      let one = ap (λ (k : Link). k.count) (hit p u us y) in
      let rest = totals p f us u 0 (ap (λ (k : Link). k.row) (a.0 y)) (ap (λ (k : Link). k.count) (a.0 y) ∙ omega arith) a.1 in
      ap (λ x. (f r).count + total f (length (those p us)) x) to ∙ omega (arith, rest, one, c))
  | inr y ↦ subst (λ x. total f (length x) r ≡ m + (length (u ∷ us) + 1)) (sym (those_miss p u us y))
      (let one = ap (λ (k : Link). k.count) (miss p u us y) in
      totals p f us r (m + 1) (e ∙ ap (λ (k : Link). k.row) (miss p u us y)) (omega (arith, c, one)) a.1 ∙ omega arith)
]

pub levels_lead : LevelsLead
unfolding Level
levels_lead a n l h lt =
    let p = reach (levels a) l in
    let os = order a n in
    let r = h.0.right l lt in
    let s = (split a os [] [] (subst (λ x. Ring a [] x) (sym (append-nil os)) h.0)).right l lt in
    let f = r.0.1 in (
      visits p (at (view Ahead l a)) os 0 (ap (λ (k : Link). k.row) f) r.0.0,
      visits p (at (view Back l a)) (turned os []) 0 (ap (λ (k : Link). k.row) s.1.1) s.1.0,
      totals p (at (view Ahead l a)) os 0 0 (ap (λ (k : Link). k.row) f) (ap (λ (k : Link). k.count) f ∙ omega arith) r.0.0 ∙ omega (arith, length_order a n),
      totals p (at (view Back l a)) (turned os []) 0 0 (ap (λ (k : Link). k.row) s.1.1) (ap (λ (k : Link). k.count) s.1.1 ∙ omega arith) s.1.0
          ∙ omega (arith, length_order a n, length_turned os []),
      those_turned p os [],
    )

-- the link back from the end
pub end_leads : (a : List Row) (n l : ℕ) → Holds a n → l < get_or (levels a) 0 0 → at (view Back l a) 0 ≡ nearest (reach (levels a) l) (turned (order a n) [])
unfolding Level
end_leads a n l h lt = ((split a (order a n) [] [] (subst (λ x. Ring a [] x) (sym (append-nil (order a n))) h.0)).right l lt).1.1

-- the two links of the row at a place
pub reported : (a : List Row) (n i l r v : ℕ) (k g : Link) → i < n → Holds a n → r ≡ get_or (order a n) i 0 → v ≡ get_or (levels a) r 0 → l < v →
    k ≡ at (view Ahead l a) r → g ≡ at (view Back l a) r →
    (l < get_or (levels a) (get_or (order a n) i 0) 0) × (k ≡ nearest (reach (levels a) l) (drop (suc i) (order a n))) × (g ≡ nearest (reach (levels a) l) (turned (take i (order a n)) []))
unfolding Level
reported a n i l r v k g lt h e ve up ke ge =
    let ring = here_row a n i r lt h e in
    let t = ring.high_ys.0 in
    let on = lt-ltb l (get_or (levels a) r 0) (omega (arith, ve)) in
    let lev = ring.right l (omega (arith, t.2, ve)) in
    (subst (λ x. l < get_or (levels a) x 0) e (omega (arith, ve)), ke ∙ lev.0.0.0 on, ge ∙ lev.1.1.0 on)

-- a row of the order lies among the rows, and has its levels
pub row_stands : (a : List Row) (n i r : ℕ) → i < n → Holds a n → r ≡ get_or (order a n) i 0 → (r < length (levels a)) × (get_or (levels a) r 0 ≤ 16)
row_stands a n i r lt h e = let ring = here_row a n i r lt h e in (ring.sound.1.0.0.1, ring.high_ys.0.1)
