-- The law of a level, from links that hold.
use Rattle.std.proofs.lemmas.Bool.{cases_Bool}
use Rattle.std.proofs.Common.{◌≡◌, ℕ, suc, ◌+◌, ◌<◌, ◌≤◌, Bool, List, [], ◌∷◌, ◌++◌, map, reverse, length, get_or, take, drop, Some, None, Option, sym, refl, ap, ◌∙◌, subst, inl, inr, arith, take_all}
use mathlib.Core.List.{map-append}
use lib.ListN.{length-map, get_or-map}
use Rattle.std.proofs.lemmas.List.{get_or_default, get_or_past}
use Rattle.order.specs.Order.{At}
use Rattle.links.specs.declared.Link.{Link}
use Rattle.links.specs.declared.Way.TheVariants.{Ahead, Back}
use Rattle.links.specs.Cells.{cells, levels, view}
use Rattle.links.specs.Chain.{at, nearest, reach}
use Rattle.links.specs.Report.{those, total}
use Rattle.links.specs.Ring.{Level, order, turned}
use Rattle.links.proofs.Chains.{hit, miss}
use Rattle.links.proofs.Orders.{length_order, length_turned}
use Rattle.links.proofs.Reports.{end_leads, levels_lead, reported, row_stands}
use Rattle.skip_list.specs.declared.lent.Lent.{Lent}
use Rattle.skip_list.specs.declared.report.KeyLink.{KeyLink}
use Rattle.skip_list.specs.Law.{LevelLaw, link_in, reaching, visited}
use Rattle.skip_list.specs.Lent.{keys_of, kept, lower, picked, size, used}
use Rattle.skip_list.specs.Tower.{height, highs, key_link, key_of, link_ahead, link_back, links_at, nearest_key}
use Rattle.skip_list.proofs.Counts.{ahead_names, back_names}
use Rattle.skip_list.proofs.Picks.{picked_take, picked_drop}
use Rattle.skip_list.proofs.Readies.{length_kept, linked_at, ready, rows_below}
use Rattle.skip_list.proofs.Towers.{Keyed, nearest_key_lem, those_keys, turned_reverse, map_reverse, high_reverse, picked_reverse, high_take, high_drop, lower_take, lower_drop, keyed_take, keyed_drop, keyed_turned}
use Rattle.links.proofs.Chains.{each_map}

module _ {A : Type 0} (s : Lent A) where
  abbrev os : List ℕ
  os = order (cells s.links) s.links.len

  abbrev ls : List ℕ
  ls = levels (cells s.links)

  long : length os ≡ s.links.len
  long = length_order (cells s.links) s.links.len

  keyed : Keyed (keys_of s) os
  keyed = each_map _ (λ r. (0 < r) × (r ≤ size s)) (λ r p. (p.0, omega (arith, p.1, (ready s).sized))) os (ready s).holds.0.sound.1.0

  -- the nearest rows ahead of a position, and behind a place
  pub ahead_of : (l p : ℕ) → key_link (keys_of s) (nearest (reach ls l) (drop p os)) ≡ link_ahead (kept s) (highs s) l p
  ahead_of l p =
      nearest_key_lem (keys_of s) ls l (drop p os) (keyed_drop (keys_of s) os p keyed)
      ∙ ap (λ (vs : List ℕ). nearest_key l (picked (keys_of s) (lower (drop p os))) vs) (high_drop ls os p)
      ∙ ap (λ (rs : List ℕ). nearest_key l (picked (keys_of s) rs) (drop p (highs s))) (lower_drop os p)
      ∙ ap (λ (xs : List A). nearest_key l xs (drop p (highs s))) (picked_drop (keys_of s) (used s) p (rows_below s))

  pub back_of : (l i : ℕ) → key_link (keys_of s) (nearest (reach ls l) (turned (take i os) [])) ≡ link_back (kept s) (highs s) l i
  back_of l i =
      nearest_key_lem (keys_of s) ls l (turned (take i os) []) (keyed_turned (keys_of s) (take i os) (keyed_take (keys_of s) os i keyed))
      ∙ ap (λ (vs : List ℕ). nearest_key l (picked (keys_of s) (lower (turned (take i os) []))) vs) (high_reverse ls (take i os) [] ∙ ap reverse (high_take ls os i))
      ∙ ap (λ (xs : List A). nearest_key l xs (reverse (take i (highs s))))
      (picked_reverse (keys_of s) (take i os) [] (keyed_take (keys_of s) os i keyed)
      ∙ ap (λ (rs : List ℕ). reverse (picked (keys_of s) rs)) (lower_take os i)
      ∙ ap reverse (picked_take (keys_of s) (used s) i (rows_below s)))

  -- what the head keeps, and a row at its place
  pub head_keeps : (l : ℕ) → l < height s → at (view Ahead l (cells s.links)) 0 ≡ nearest (reach ls l) os
  unfolding Level
  head_keeps l lt = ((ready s).holds.0.right l lt).0.1

  pub high_is : (i : ℕ) → i < s.links.len → get_or (highs s) i 0 ≡ get_or ls (get_or os i 0) 0
  high_is i lt = get_or_default (highs s) i 0 (get_or ls 0 0) (omega (arith, long, length-map os (λ (r : ℕ). get_or ls r 0))) ∙ get_or-map (λ (r : ℕ). get_or ls r 0) os i 0

  pub row_keeps : (l i r : ℕ) → i < s.links.len → r ≡ get_or os i 0 → l < get_or (highs s) i 0 →
      (at (view Ahead l (cells s.links)) r ≡ nearest (reach ls l) (drop (suc i) os)) × (at (view Back l (cells s.links)) r ≡ nearest (reach ls l) (turned (take i os) []))
  row_keeps l i r lt e up =
      let t = reported (cells s.links) s.links.len i l r (get_or ls r 0) _ _ lt (ready s).holds e refl (subst (λ (n : ℕ). l < n) (high_is i lt ∙ ap (λ (x : ℕ). get_or ls x 0) (sym e)) up) refl refl in
      (t.1, t.2)

  pub level_is : (i r : ℕ) → At (used s) i r → get_or (highs s) i 0 ≡ get_or ls (r + 1) 0
  level_is i r a = let q = linked_at s i r a in high_is i q.0 ∙ ap (λ (x : ℕ). get_or ls x 0) (sym q.1)

  -- what reading a row asks for
  pub row_fits : (i r : ℕ) → At (used s) i r → (r + 1 < length ls) × (get_or (highs s) i 0 ≤ 16) × (r + 1 < 65536)
  row_fits i r a =
      let q = linked_at s i r a in
      let t = row_stands (cells s.links) s.links.len i (r + 1) q.0 (ready s).holds q.1 in
      (t.0, omega (arith, t.1, level_is i r a), omega (arith, t.0, (ready s).sized, (ready s).few))

  -- a link leads to a row of the list, or to none
  pub nearest_low : (P : ℕ → Bool) (us : List ℕ) → Keyed (keys_of s) us → (nearest P us).row ≤ size s
  nearest_low P [] b = omega arith
  nearest_low P (u ∷ us) b = elim (cases_Bool (P u)) [
    | inl y ↦ subst (λ (k : Link). k.row ≤ size s) (sym (hit P u us y)) b.0.1
    | inr y ↦ subst (λ (k : Link). k.row ≤ size s) (sym (miss P u us y)) (nearest_low P us b.1)
  ]

  pub ahead_low : (l p : ℕ) → (nearest (reach ls l) (drop p os)).row ≤ size s
  ahead_low l p = nearest_low (reach ls l) (drop p os) (keyed_drop (keys_of s) os p keyed)

  pub back_low : (l i : ℕ) → (nearest (reach ls l) (turned (take i os) [])).row ≤ size s
  back_low l i = nearest_low (reach ls l) (turned (take i os) []) (keyed_turned (keys_of s) (take i os) (keyed_take (keys_of s) os i keyed))

  pub row_linked : (l i r : ℕ) → At (used s) i r → l < get_or (highs s) i 0 →
      (at (view Ahead l (cells s.links)) (r + 1) ≡ nearest (reach ls l) (drop (suc i) os)) × (at (view Back l (cells s.links)) (r + 1) ≡ nearest (reach ls l) (turned (take i os) []))
  row_linked l i r a up = let q = linked_at s i r a in row_keeps l i (r + 1) q.0 q.1 up

  pub links_are : (l i r : ℕ) → At (used s) i r → l < get_or (highs s) i 0 → (k g : Link) (a b : KeyLink A) → k ≡ at (view Ahead l (cells s.links)) (r + 1) → g ≡ at (view Back l (cells s.links)) (r + 1) →
      a ≡ key_link (keys_of s) k → b ≡ key_link (keys_of s) g → record { ahead = a; back = b } ≡ links_at (kept s) (highs s) l i
  links_are l i r at up k g a b ke ge ae be =
      let t = row_linked l i r at up in
      let x : a ≡ link_ahead (kept s) (highs s) l (suc i) = ae ∙ ap (key_link (keys_of s)) (ke ∙ t.0) ∙ ahead_of l (suc i) in
      let y : b ≡ link_back (kept s) (highs s) l i = be ∙ ap (key_link (keys_of s)) (ge ∙ t.1) ∙ back_of l i in
      ap (λ (z : KeyLink A). record { ahead = z; back = b }) x ∙ ap (λ (z : KeyLink A). record { ahead = link_ahead (kept s) (highs s) l (suc i); back = z }) y

  -- the kept links of a level visit the keys that reach it
  walk_keys : (us : List ℕ) (zs : List ℕ) → us ≡ zs ++ 0 ∷ [] → map (key_of (keys_of s)) us ≡ map (key_of (keys_of s)) zs ++ None ∷ []
  walk_keys us zs e = ap (map (key_of (keys_of s))) e ∙ map-append (key_of (keys_of s)) zs (0 ∷ [])

  pub law_of : (l : ℕ) → l < height s → LevelLaw s (kept s) (highs s) l
  law_of l lt =
      let p = reach ls l in
      let t = levels_lead (cells s.links) s.links.len l (ready s).holds lt in
      let n = those_keys (keys_of s) ls l os keyed in
      let m : length (those p os) ≡ length (reaching l (kept s) (highs s)) =
      sym (length-map (those p os) (key_of (keys_of s))) ∙ ap length n ∙ length-map (reaching l (kept s) (highs s)) Some in
      let back : map (key_of (keys_of s)) (those p (turned os [])) ≡ map Some (reverse (reaching l (kept s) (highs s))) =
      ap (map (key_of (keys_of s))) (t.4 ∙ turned_reverse (those p os) []) ∙ map_reverse (key_of (keys_of s)) (those p os) [] ∙ ap reverse n ∙ sym (map_reverse Some (reaching l (kept s) (highs s)) []) in
      let mb : length (those p (turned os [])) ≡ length (reaching l (kept s) (highs s)) =
      ap length t.4 ∙ length_turned (those p os) [] ∙ omega (arith, m) in
      let k = length_kept s in
      let alike : length (highs s) ≡ length (kept s) = length-map os (λ (r : ℕ). get_or ls r 0) ∙ omega (arith, k, long) in
      record {
        forward = ap (λ (q : ℕ). visited s Ahead l (suc q)) (sym m) ∙ walk_keys _ (those p os) t.0 ∙ ap (λ (z : List (Option A)). z ++ None ∷ []) n;
        backward = ap (λ (q : ℕ). visited s Back l (suc q)) (sym mb) ∙ walk_keys _ (those p (turned os [])) t.1 ∙ ap (λ (z : List (Option A)). z ++ None ∷ []) back;
        totals = ap (λ (q : ℕ). total (link_in s Ahead l) q 0) (sym m) ∙ t.2 ∙ omega (arith, k);
        from_head = ap (key_link (keys_of s)) (head_keeps l lt) ∙ ahead_of l 0;
        from_key = λ i low up. ap (key_link (keys_of s)) (row_keeps l i (get_or os i 0) (omega (arith, k)) refl up).0 ∙ ahead_of l (suc i);
        back_from_key = λ i low up. ap (key_link (keys_of s)) (row_keeps l i (get_or os i 0) (omega (arith, k)) refl up).1 ∙ back_of l i;
        back_from_end =
            ap (λ (r : ℕ). key_link (keys_of s) (link_in s Back l r)) (get_or_past os (length (kept s)) 0 (omega (arith, k, long)))
            ∙ ap (key_link (keys_of s)) (end_leads (cells s.links) s.links.len l (ready s).holds lt ∙ ap (λ (us : List ℕ). nearest p (turned us [])) (sym (take_all (length (kept s)) os (omega (arith, k, long)))))
            ∙ back_of l (length (kept s));
        counts_ahead = λ q le. ahead_names l (kept s) (highs s) alike q le;
        counts_back = λ i le. back_names l (kept s) (highs s) alike i le;
      }
