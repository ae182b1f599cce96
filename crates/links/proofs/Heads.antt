-- A list behind a head: place r of the whole is place r - 1 of the rest. One link written is one place of one view.
use Rattle.std.proofs.Common.{◌≡◌, ℕ, zero, suc, ◌-◌, ◌<◌, ◌≢◌, List, [], ◌∷◌, length, get_or, set, sym, refl, ap, ◌∙◌, subst, sub-one, arith, get_or-set_other}
use lib.ListN.{length-map, get_or-map}
use lib.Seq.{map-set, map-set_same}
use Rattle.links.specs.declared.Link.{Link}
use Rattle.links.specs.declared.LevelLinks.{LevelLinks}
use Rattle.links.specs.declared.Row.{Row}
use Rattle.links.specs.declared.Way.{Way}
use Rattle.links.specs.declared.Way.TheVariants.{Ahead, Back}
use Rattle.links.specs.Chain.{at}
use Rattle.links.specs.Cell.{none, unlinked, blank, toward, with_toward, link_of, with_link, flip, view, levels, Wrote}

pub get_or_behind : {A : Type 0} (x : A) (xs : List A) (r : ℕ) (d : A) → r ≢ 0 → get_or xs (r - 1) d ≡ get_or (x ∷ xs) r d
get_or_behind x xs zero d ne = absurd (ne refl)
get_or_behind x xs (suc r) d ne = ap (λ k. get_or xs k d) (sub-one (suc r))

pub set_behind : {A : Type 0} (x : A) (xs : List A) (r : ℕ) (y : A) → r ≢ 0 → x ∷ set xs (r - 1) y ≡ set (x ∷ xs) r y
set_behind x xs zero y ne = absurd (ne refl)
set_behind x xs (suc r) y ne = ap (λ k. x ∷ set xs k y) (sub-one (suc r))

toward_back : (w : Way) (k : Link) (p : LevelLinks) → toward (flip w) (with_toward w k p) ≡ toward (flip w) p
toward_back Ahead k p = refl
toward_back Back k p = refl

pub toward_there : (w : Way) (k : Link) (p : LevelLinks) → toward w (with_toward w k p) ≡ k
toward_there Ahead k p = refl
toward_there Back k p = refl

kept_back : (w : Way) (ps : List LevelLinks) (l : ℕ) (k : Link) → toward (flip w) (get_or (set ps l (with_toward w k (get_or ps l unlinked))) l unlinked) ≡ toward (flip w) (get_or ps l unlinked)
kept_back w [] l k = refl
kept_back w (p ∷ ps) zero k = toward_back w k p
kept_back w (p ∷ ps) (suc l) k = kept_back w ps l k

with_other : (w v : Way) (l m : ℕ) (k : Link) (r : Row) → m ≢ l → link_of v m (with_link w l k r) ≡ link_of v m r
with_other w v l m k r ne = ap (toward v) (get_or-set_other r.links.at l m _ unlinked ne)

-- a row written with one link changed
pub wrote : (a : List Row) (r : ℕ) (w : Way) (l : ℕ) (k : Link) (new : Row) → new ≡ with_link w l k (get_or a r blank) → link_of w l new ≡ k →
    Wrote a (set a r new) r w l k
unfolding view levels
wrote a r w l k new e there = record {
  same = map-set (link_of w l) a r new ∙ ap (λ x. set (view w l a) r x) there;
  back = map-set_same (link_of (flip w) l) a r new blank (ap (λ x. link_of (flip w) l x) e ∙ kept_back w (get_or a r blank).links.at l k);
  other = (λ v m ne. map-set_same (link_of v m) a r new blank (ap (λ x. link_of v m x) e ∙ with_other w v l m k (get_or a r blank) ne));
  levels_same = map-set_same (λ (x : Row). x.level) a r new blank (ap (λ (x : Row). x.level) e);
}

pub wrote_behind : (h : Row) (rows : List Row) (r : ℕ) (w : Way) (l : ℕ) (k : Link) (new : Row) → r ≢ 0 →
    new ≡ with_link w l k (get_or rows (r - 1) blank) → link_of w l new ≡ k → Wrote (h ∷ rows) (h ∷ set rows (r - 1) new) r w l k
wrote_behind h rows r w l k new ne e there =
    subst (λ b. Wrote (h ∷ rows) b r w l k) (sym (set_behind h rows r new ne))
    (wrote (h ∷ rows) r w l k new (e ∙ ap (λ x. with_link w l k x) (get_or_behind h rows r blank ne)) there)

pub wrote_head : (h : Row) (rows : List Row) (r : ℕ) (w : Way) (l : ℕ) (k : Link) (new : Row) → r ≡ 0 →
    new ≡ with_link w l k h → link_of w l new ≡ k → Wrote (h ∷ rows) (new ∷ rows) r w l k
wrote_head h rows r w l k new z e there = subst (λ x. Wrote (h ∷ rows) (new ∷ rows) x w l k) (sym z) (wrote (h ∷ rows) 0 w l k new e there)

pub levels_at : (a : List Row) (r : ℕ) → (get_or a r blank).level ≡ get_or (levels a) r 0
unfolding levels
levels_at a r = sym (get_or-map (λ (x : Row). x.level) a r blank)

blank_none : (w : Way) (l : ℕ) → link_of w l blank ≡ none
blank_none Ahead l = refl
blank_none Back l = refl

pub view_at : (w : Way) (l : ℕ) (a : List Row) (r : ℕ) → link_of w l (get_or a r blank) ≡ at (view w l a) r
unfolding view
view_at w l a r = sym (get_or-map (link_of w l) a r blank) ∙ ap (λ d. get_or (view w l a) r d) (blank_none w l)

pub levels_behind : (h : Row) (rows : List Row) (r : ℕ) → r ≢ 0 → (get_or rows (r - 1) blank).level ≡ get_or (levels (h ∷ rows)) r 0
levels_behind h rows r ne = ap (λ (x : Row). x.level) (get_or_behind h rows r blank ne) ∙ levels_at (h ∷ rows) r

pub view_behind : (w : Way) (l : ℕ) (h : Row) (rows : List Row) (r : ℕ) → r ≢ 0 → link_of w l (get_or rows (r - 1) blank) ≡ at (view w l (h ∷ rows)) r
view_behind w l h rows r ne = ap (λ x. link_of w l x) (get_or_behind h rows r blank ne) ∙ view_at w l (h ∷ rows) r

pub levels_head : (h : Row) (rows : List Row) (r : ℕ) → r ≡ 0 → h.level ≡ get_or (levels (h ∷ rows)) r 0
levels_head h rows r z = ap (λ n. (get_or (h ∷ rows) n blank).level) (sym z) ∙ levels_at (h ∷ rows) r

pub view_head : (w : Way) (l : ℕ) (h : Row) (rows : List Row) (r : ℕ) → r ≡ 0 → link_of w l h ≡ at (view w l (h ∷ rows)) r
view_head w l h rows r z = ap (λ n. link_of w l (get_or (h ∷ rows) n blank)) (sym z) ∙ view_at w l (h ∷ rows) r

pub length_levels : (a : List Row) → length (levels a) ≡ length a
unfolding levels
length_levels a = length-map a (λ (x : Row). x.level)

pub length_view : (w : Way) (l : ℕ) (a : List Row) → length (view w l a) ≡ length (levels a)
unfolding view
length_view w l a = length-map a (link_of w l) ∙ sym (length_levels a)

-- a row that is not the head lies in the slice
pub in_rows : (h : Row) (rows : List Row) (r : ℕ) → r < length (levels (h ∷ rows)) → r ≢ 0 → r - 1 < length rows
in_rows h rows r lt ne = omega (arith, length_levels (h ∷ rows))

pub some_row : (h : Row) (rows : List Row) → 0 < length (levels (h ∷ rows))
some_row h rows = omega (arith, length_levels (h ∷ rows))
