-- A key taken out stands no more, and can be put in again.
use Rattle.std.proofs.Common.{◌≡◌, ℕ, ◌<◌, true, List, [], ◌∷◌, ◌++◌, length, drop, is_some, Some, None, Ok, Err, Option, sym, ap, ◌∙◌, subst, arith}
use Rattle.std.specs.List.{insert, remove}
use Rattle.std.proofs.lemmas.List.Edits.{length-remove}
use Rattle.std.proofs.lemmas.List.{take_all, drop_all}
use Rattle.std.proofs.lemmas.Bool.{true≢false}
use Rattle.order.proofs.Places.{before_removed}
use Rattle.order.specs.Order.{Admits, Meaning, ordered, At, Absent, Stands, Distinct, Lawful, RemovesKey, InsertsAt, Refuses, Found, Finds}
use Rattle.order.specs.declared.fault.SetFault.{SetFault}
use Rattle.order.specs.declared.fault.SetFault.TheVariants.{Present, NoPredecessor, PastEnd, Full, Uneven}

-- a key that stands is taken out
pub taken_out : {A : Type 0} (v : Meaning A) (x : A) (r : Option ℕ) (w : Meaning A)
    → Stands v.order x → RemovesKey v x r w → (i : ℕ) × At v.order i x × (w ≡ ordered v (remove v.order i))
taken_out v x (Some i) w s r = (i, r.0, r.1)
taken_out v x None w (i, at) r = absurd (r.0 i at)

-- a removal that answered a place took out what stood there
pub removed_at : {A : Type 0} (v : Meaning A) (x : A) (r : Option ℕ) (i : ℕ) (w : Meaning A)
    → r ≡ Some i → RemovesKey v x r w → At v.order i x × (w ≡ ordered v (remove v.order i))
removed_at v x r i w e removes = subst (λ (o : Option ℕ). RemovesKey v x o w) e removes

pub removed_absent : {A : Type 0} (xs : List A) (i : ℕ) (x : A) → Distinct xs → At xs i x → Absent (remove xs i) x
removed_absent xs i x apart at j here =
    let was = before_removed xs i at.0 j x here in
    let e = apart was.0 i x was.1 at in
    let z : ◌≡◌ {A = ℕ} 0 1 = grind (arith, e, was.2) in omega arith

-- where a key may go in, nothing turns it down
pub none_refuses : {A : Type 0} (v : Meaning A) (place : ℕ) (x : A) (f : SetFault) → Admits v place x → Refuses v place x f → ⊥
none_refuses v place x Present (absent, within, room) (i, here) = absent i here
none_refuses v place x NoPredecessor admits b = b
none_refuses v place x PastEnd (absent, within, room) (_, past) = omega arith
none_refuses v place x Full (absent, within, room) (_, _, full) = omega arith
none_refuses v place x Uneven admits b = b

-- what was taken out goes in again at any place of what remains
pub goes_back : {A : Type 0} (v : Meaning A) (i place : ℕ) (x : A) → Lawful v → At v.order i x → place < length v.order
    → Admits (ordered v (remove v.order i)) place x
goes_back v i place x lawful at within =
    let len = length-remove v.order i at.0 in
    let fits = lawful.fits in
    (removed_absent v.order i x lawful.apart at, omega arith, omega arith)

-- a lookup that found the key
pub found_some : {A : Type 0} (xs : List A) (x : A) (r : Option ℕ) → Found xs x r → is_some r ≡ true → Stands xs x
found_some xs x (Some i) f e = (i, f)
found_some xs x None f e = absurd (true≢false (sym e))

-- a key found, taken out, and put in again: v is left as v1, v2 and v3 in turn
module _ {A : Type 0} (v v1 v2 v3 : Meaning A) (x : A) (found out : Option ℕ) (place : ℕ)
    (finds : Finds v x found v1) (some : is_some found ≡ true) (within : place < length v1.order) (takes : RemovesKey v1 x out v2) where
  stands : Stands v1.order x
  stands = subst (λ (u : Meaning A). Stands u.order x) (sym finds.1) (found_some v.order x found finds.0 some)

  pub moved : (u : Unit {0}) → InsertsAt v2 place x (Ok u) v3 → (i : ℕ) × At v.order i x × (v3 ≡ ordered v (insert (remove v.order i) place x))
  moved u puts =
      let gone = taken_out v1 x out v2 stands takes in
      subst (λ (u : Meaning A). (i : ℕ) × At u.order i x × (v3 ≡ ordered u (insert (remove u.order i) place x))) finds.1
      (gone.0, gone.1, puts.1 ∙ ap (λ (u : Meaning A). ordered u (insert u.order place x)) gone.2)

  pub move_accepted : (f : SetFault) → Lawful v1 → InsertsAt v2 place x (Err f) v3 → ⊥
  move_accepted f lawful puts =
      let gone = taken_out v1 x out v2 stands takes in
      none_refuses (ordered v1 (remove v1.order gone.0)) place x f (goes_back v1 gone.0 place x lawful gone.1 within) (subst (λ (u : Meaning A). Refuses u place x f) gone.2 puts.0)

-- put in at the length, a key stands last
pub put_last : {A : Type 0} (xs : List A) (x : A) → insert xs (length xs) x ≡ xs ++ x ∷ []
put_last {A} xs x =
    ap (λ (a : List A). a ++ (x ∷ drop (length xs) xs)) (take_all (length xs) xs (omega arith)) ∙ ap (λ (b : List A). xs ++ (x ∷ b)) (drop_all (length xs) xs (omega arith))
