-- The level of a row that stands nowhere in the order, or of the head, may change.
use Rattle.std.proofs.Common.{◌≡◌, ℕ, ◌+◌, ◌-◌, ◌<◌, ◌≤◌, Bool, false, cond, ltb, ◌≢◌, List, [], ◌∷◌, length, get_or, set, sym, refl, ap, ◌∙◌, subst, inl, inr, eq-or-lt_of_le, arith, length-set, get_or-set_other, get_or-set_same, ltb-false, ltb-true, le-ltb}
use lib.Seq.{map-set, map-set_same}
use Rattle.std.proofs.lemmas.Bool.{cases_Bool}
use Rattle.links.specs.declared.Link.{Link}
use Rattle.links.specs.declared.Row.{Row}
use Rattle.links.specs.declared.Way.{Way}
use Rattle.links.specs.declared.Way.TheVariants.{Ahead, Back}
use Rattle.links.specs.Cell.{none, blank, link_of, levels, view}
use Rattle.links.specs.Chain.{plus, nearest, Each, Away, Toward, Right, reach, at, Sound}
use Rattle.links.specs.Ring.{Level, Only, Pair, Tall, Ring, Leveled}
use Rattle.links.proofs.Chains.{each_map, link_eq, miss, not_both}
use Rattle.links.proofs.Inserts.{level_kept}
use Rattle.links.proofs.Heads.{get_or_behind, set_behind, levels_head, view_head, length_view}

abbrev Agree : (p q : ℕ → Bool) → List ℕ → Type 0
Agree p q rs = Each (λ r. q r ≡ p r) rs

nearest_agree : (p q : ℕ → Bool) (rs : List ℕ) → Agree p q rs → nearest p rs ≡ nearest q rs
nearest_agree p q [] e = refl
nearest_agree p q (r ∷ rs) e =
    ap (λ v. cond v (record { row = r; count = 1 }) (plus 1 (nearest p rs))) (sym e.0) ∙ ap (λ k. cond (q r) (record { row = r; count = 1 }) (plus 1 k)) (nearest_agree p q rs e.1)

away_agree : (p q : ℕ → Bool) (f : ℕ → Link) (far : List ℕ) → Agree p q far → Away p f far → Away q f far
away_agree p q f [] e a = tt
away_agree p q f (r ∷ far) e a = ((λ h. a.0 (sym e.0 ∙ h) ∙ nearest_agree p q far e.1), away_agree p q f far e.1 a.1)

toward_agree : (p q : ℕ → Bool) (f : ℕ → Link) (near far : List ℕ) → Agree p q near → Agree p q far → Toward p f near far → Toward q f near far
toward_agree p q f near [] n e a = a ∙ nearest_agree p q near n
toward_agree p q f near (r ∷ far) n e a =
    ((λ h. a.0 (sym e.0 ∙ h) ∙ nearest_agree p q near n), toward_agree p q f (r ∷ near) far (e.0, n) e.1 a.1)

right_agree : (p q : ℕ → Bool) (f : ℕ → Link) (xs ys : List ℕ) → Agree p q xs → Agree p q ys → Right p f xs ys → Right q f xs ys
right_agree p q f xs ys e i r = (away_agree p q f ys i r.0, toward_agree p q f ys xs i e r.1)

apart_agree : (ls : List ℕ) (n v l : ℕ) (rs : List ℕ) → Each (λ r. r ≢ n) rs → Agree (reach ls l) (reach (set ls n v) l) rs
apart_agree ls n v l rs e = each_map (λ r. r ≢ n) (λ r. reach (set ls n v) l r ≡ reach ls l r) (λ r ne. ap (λ x. ltb l x) (get_or-set_other ls n r v 0 ne)) rs e

apart_tall : (ls : List ℕ) (n v : ℕ) (rs : List ℕ) → get_or ls 0 0 ≤ get_or (set ls n v) 0 0 → Each (λ r. r ≢ n) rs → Each (Tall ls) rs → Each (Tall (set ls n v)) rs
apart_tall ls n v [] up e t = tt
apart_tall ls n v (r ∷ rs) up e t = (subst (λ x. (0 < x) × (x ≤ 16) × (x ≤ get_or (set ls n v) 0 0)) (sym (get_or-set_other ls n r v 0 e.0)) (t.0.0, t.0.1, omega (arith, t.0.2)), apart_tall ls n v rs up e.1 t.1)

-- true below one height, and from there to another
whole : (a : List Row) (h k : ℕ) (xs ys : List ℕ) → ((l : ℕ) → l < h → Level a l xs ys) → ((l : ℕ) → h ≤ l → l < k → Level a l xs ys) → (l : ℕ) → l < k → Level a l xs ys
whole a h k xs ys f g l lt = elim (cases_Bool (ltb l h)) [ inl y ↦ f l (ltb-true l h y) | inr y ↦ g l (ltb-false l h y) lt ]

-- above every row, the head's two links lead round
pub alone : (p : ℕ → Bool) (rs : List ℕ) → Each (λ r. p r ≡ false) rs → nearest p rs ≡ record { row = 0; count = length rs + 1 }
alone p [] e = refl
alone p (r ∷ rs) e = miss p r rs e.0 ∙ ap (λ k. plus 1 k) (alone p rs e.1) ∙ link_eq _ _ refl (omega arith)

alone_away : (p : ℕ → Bool) (f : ℕ → Link) (rs : List ℕ) → Each (λ r. p r ≡ false) rs → Away p f rs
alone_away p f [] e = tt
alone_away p f (r ∷ rs) e = ((λ y. not_both (p r) e.0 y), alone_away p f rs e.1)

alone_toward : (p : ℕ → Bool) (f : ℕ → Link) (near rs : List ℕ) → Each (λ r. p r ≡ false) near → Each (λ r. p r ≡ false) rs → f 0 ≡ record { row = 0; count = length near + length rs + 1 } → Toward p f near rs
alone_toward p f near [] n e k = k ∙ link_eq _ _ refl (omega arith) ∙ sym (alone p near n)
alone_toward p f near (r ∷ rs) n e k = ((λ y. not_both (p r) e.0 y), alone_toward p f (r ∷ near) rs (e.0, n) e.1 (k ∙ link_eq _ _ refl (omega arith)))

low_rows : (ls : List ℕ) (l : ℕ) (rs : List ℕ) → get_or ls 0 0 ≤ l → Each (Tall ls) rs → Each (λ r. reach ls l r ≡ false) rs
low_rows ls l rs le t = each_map (Tall ls) (λ r. reach ls l r ≡ false) (λ r h. le-ltb l (get_or ls r 0) (omega (arith, h.2))) rs t

pub level_alone : (a : List Row) (l n : ℕ) (xs ys : List ℕ) → Ring a xs ys → get_or (levels a) 0 0 ≤ l → length xs + length ys ≡ n →
    at (view Ahead l a) 0 ≡ record { row = 0; count = n + 1 } → at (view Back l a) 0 ≡ record { row = 0; count = n + 1 } → Level a l xs ys
unfolding Level
level_alone a l n xs ys g le e f b =
    let lx = low_rows (levels a) l xs le g.high_xs in
    let ly = low_rows (levels a) l ys le g.high_ys in
    ((alone_away _ _ ys ly, alone_toward (reach (levels a) l) (at (view Ahead l a)) ys xs ly lx (f ∙ link_eq _ _ refl (omega (arith, e)))), (alone_away _ _ xs lx, alone_toward (reach (levels a) l) (at (view Back l a)) xs ys lx ly (b ∙ link_eq _ _ refl (omega (arith, e)))))

-- a write above the head's level leaves the ring
pub ring_only : (a b : List Row) (l : ℕ) (xs ys : List ℕ) → Only a b l → get_or (levels a) 0 0 ≤ l → Ring a xs ys → Ring b xs ys
ring_only a b l xs ys o le g =
    let e = sym o.levels_same in
    record {
      sound = subst (λ x. Sound (length x) xs ys) e g.sound;
      head_tall = subst (λ x. Tall x 0) e g.head_tall;
      high_xs = subst (λ x. Each (Tall x) xs) e g.high_xs;
      high_ys = subst (λ x. Each (Tall x) ys) e g.high_ys;
      right = (λ m lt. (let low = subst (λ x. m < get_or x 0 0) o.levels_same lt in level_kept a b l m xs ys o (omega arith) (g.right m low)));
    }

pub ring_leveled : (a b : List Row) (n v : ℕ) (xs ys : List ℕ) → Leveled a b n v → Each (λ r. r ≢ n) xs → Each (λ r. r ≢ n) ys → Tall (set (levels a) n v) 0 → get_or (levels a) 0 0 ≤ get_or (set (levels a) n v) 0 0 →
    ((l : ℕ) → get_or (levels a) 0 0 ≤ l → l < get_or (set (levels a) n v) 0 0 → Level a l xs ys) → Ring a xs ys → Ring b xs ys
unfolding Level
ring_leveled a b n v xs ys h ex ey top up more g =
    let e = sym h.level in
    record {
      sound = subst (λ x. Sound x xs ys) (sym (ap length h.level ∙ length-set (levels a) n v)) g.sound;
      head_tall = subst (λ x. Tall x 0) e top;
      high_xs = subst (λ x. Each (Tall x) xs) e (apart_tall (levels a) n v xs up ex g.high_xs);
      high_ys = subst (λ x. Each (Tall x) ys) e (apart_tall (levels a) n v ys up ey g.high_ys);
      right = (λ l lt.
          (let f = apart_agree (levels a) n v l xs ex in
          let i = apart_agree (levels a) n v l ys ey in
          let r = whole a (get_or (levels a) 0 0) _ xs ys g.right more l (subst (λ x. l < get_or x 0 0) h.level lt) in (
            subst (λ x. Right (reach (levels b) l) (at x) xs ys) (sym (h.links Ahead l)) (subst (λ x. Right (reach x l) (at (view Ahead l a)) xs ys) e (right_agree _ _ _ xs ys f i r.0)),
            subst (λ x. Right (reach (levels b) l) (at x) ys xs) (sym (h.links Back l)) (subst (λ x. Right (reach x l) (at (view Back l a)) ys xs) e (right_agree _ _ _ ys xs i f r.1)),
          )));
    }

-- the head's links from one level to another are k
abbrev pub Rounds : List Row → ℕ → ℕ → Link → Type 0
Rounds a h l k = (m : ℕ) → h ≤ m → m < l → (at (view Ahead m a) 0 ≡ k) × (at (view Back m a) 0 ≡ k)

pub rounds_step : (a c : List Row) (h l : ℕ) (k : Link) → 0 < length (levels a) → Pair a c l 0 k 0 k → Rounds a h l k → Rounds c h (l + 1) k
rounds_step a c h l k z w r m low lt = elim (eq-or-lt_of_le {n = m} {m = l} (omega arith)) [
  | inl y ↦ subst (λ j. (at (view Ahead j c) 0 ≡ k) × (at (view Back j c) 0 ≡ k)) (sym y)
      (ap (λ x. at x 0) w.0 ∙ get_or-set_same (view Ahead l a) 0 k none (omega (arith, length_view Ahead l a)), ap (λ x. at x 0) w.1 ∙ get_or-set_same (view Back l a) 0 k none (omega (arith, length_view Back l a)))
  | inr y ↦ (let h = r m low y in (ap (λ x. at x 0) (w.2.other Ahead m (omega arith)) ∙ h.0, ap (λ x. at x 0) (w.2.other Back m (omega arith)) ∙ h.1))
]

-- a row with another level
abbrev pub with_level : ℕ → Row → Row
with_level v r = record { level = v; links = r.links }

with_link_lem : (w : Way) (l v : ℕ) (r : Row) → link_of w l (with_level v r) ≡ link_of w l r
with_link_lem Ahead l v r = refl
with_link_lem Back l v r = refl

leveled : (a : List Row) (r v : ℕ) → Leveled a (set a r (with_level v (get_or a r blank))) r v
unfolding levels view
leveled a r v = record {
  level = map-set (λ (x : Row). x.level) a r (with_level v (get_or a r blank));
  links = (λ w l. map-set_same (link_of w l) a r (with_level v (get_or a r blank)) blank (with_link_lem w l v (get_or a r blank)));
}

pub leveled_head : (h : Row) (rows : List Row) (r v : ℕ) → r ≡ 0 → Leveled (h ∷ rows) (with_level v h ∷ rows) r v
leveled_head h rows r v z = subst (λ x. Leveled (h ∷ rows) (with_level v h ∷ rows) x v) (sym z) (leveled (h ∷ rows) 0 v)

pub leveled_behind : (h : Row) (rows : List Row) (r v : ℕ) → r ≢ 0 → Leveled (h ∷ rows) (h ∷ set rows (r - 1) (with_level v (get_or rows (r - 1) blank))) r v
leveled_behind h rows r v ne =
    subst (λ b. Leveled (h ∷ rows) b r v)
    (sym (set_behind h rows r (with_level v (get_or rows (r - 1) blank)) ne ∙ ap (λ x. set (h ∷ rows) r (with_level v x)) (get_or_behind h rows r blank ne)))
    (leveled (h ∷ rows) r v)

-- an empty order
pub ring_new : (h : Row) (rows : List Row) → h.level ≡ 1 → ((w : Way) (l : ℕ) → l < 16 → link_of w l h ≡ record { row = 0; count = 1 }) → Ring (h ∷ rows) [] []
unfolding Level
ring_new h rows one round = record {
  sound = ((tt, tt), (tt, tt));
  head_tall = subst (λ x. (0 < x) × (x ≤ 16) × (x ≤ x)) (sym one ∙ levels_head h rows 0 refl) (omega arith, omega arith, omega arith);
  high_xs = tt;
  high_ys = tt;
  right = (λ l lt. ((tt, sym (view_head Ahead l h rows 0 refl) ∙ round Ahead l (omega (arith, one, levels_head h rows 0 refl))), (tt, sym (view_head Back l h rows 0 refl) ∙ round Back l (omega (arith, one, levels_head h rows 0 refl)))));
}

pub head_kept : (a b : List Row) (r v : ℕ) → Leveled a b r v → 0 < r → get_or (levels b) 0 0 ≡ get_or (levels a) 0 0
head_kept a b r v f lt = ap (λ x. get_or x 0 0) f.level ∙ get_or-set_other (levels a) r 0 v 0 (omega arith)
