-- The reader's answers are what the line says.
use Rattle.std.proofs.Common.{◌≡◌, ℕ, ◌<◌, true, false, eqb, List, [], length, get_or, Some, None, Option, sym, refl, ap, ◌∙◌, subst, ⊎_elim, eqb-true}
use Rattle.std.specs.List.{between}
use Rattle.std.specs.Option.{ok_or}
use Rattle.line.specs.declared.fault.LineFault.TheVariants.{BadLine}
use Rattle.std.proofs.lemmas.List.{nil_from_length}
use Rattle.std.proofs.lemmas.Option.{none-some}
use Rattle.std.proofs.lemmas.Bool.{cases_Bool}
use Rattle.line.specs.Grammar.{Asked, Lawful, Line, Reads, Says, adding, asked, dropping, joining, letter, listing, moving, sending, spelt}
use Rattle.line.specs.Lines.{a_capitals, a_mark, a_number, bind, end, heard, next, said}
use Rattle.line.specs.Words.{word, fields}
use Rattle.line.specs.declared.command.Command.{Command}
use Rattle.line.proofs.Says.{Found, at_end, says_at, found_at}
use Rattle.line.proofs.Fields.{capitals_read, capitals_said, mark_read, mark_said, number_read, number_said}

end_said : (y : List ℕ) (d c : Asked) → end y d ≡ Some c → (y ≡ []) × (d ≡ c)
end_said y d c e =
    ⊎_elim
    (λ (t : eqb (length y) 0 ≡ true). let k : Some d ≡ Some c = simp t at e in (nil_from_length y (eqb-true _ _ t), cc))
    (λ (t : eqb (length y) 0 ≡ false). absurd (none-some c (simp t at e)))
    (cases_Bool (eqb (length y) 0))

-- every line of what may be asked is read
pub complete : (a : Asked) (x : List ℕ) → Lawful a → word x ≡ [] → fields x ≡ spelt a → said (letter a) x ≡ Some a
complete (adding a) x h w e =
    let q0 = number_read x a.number _ h.0 w e in
    let q1 = number_read (next x) a.place _ h.1 q0.2 q0.1 in
    let q2 = number_read (next (next x)) a.first _ h.2 q1.2 q1.1 in
    let q3 = number_read (next (next (next x))) a.last _ h.3 q2.2 q2.1 in
    let q4 = capitals_read (next (next (next (next x)))) a.classes _ h.4 q3.2 q3.1 in
    let q5 = number_read (next (next (next (next (next x))))) a.route _ h.5 q4.2 q4.1 in
    let z : (next (next (next (next (next (next x)))))) ≡ [] = at_end (next (next (next (next (next (next x)))))) q5.2 q5.1 in
    rw (q0.0, q1.0, q2.0, q3.0, q4.0, q5.0, z)
complete (dropping n) x h w e =
    let q0 = number_read x n _ h w e in
    let z : (next x) ≡ [] = at_end (next x) q0.2 q0.1 in
    rw (q0.0, z)
complete (moving n p) x h w e =
    let q0 = number_read x n _ h.0 w e in
    let q1 = number_read (next x) p _ h.1 q0.2 q0.1 in
    let z : (next (next x)) ≡ [] = at_end (next (next x)) q1.2 q1.1 in
    rw (q0.0, q1.0, z)
complete (joining tag) x h w e =
    let q0 = mark_read x tag.class _ h.0 w e in
    let q1 = number_read (next x) tag.number _ h.1 q0.2 q0.1 in
    let z : (next (next x)) ≡ [] = at_end (next (next x)) q1.2 q1.1 in
    rw (q0.0, q1.0, z)
complete (sending t) x h w e =
    let q0 = number_read x t _ h w e in
    let z : (next x) ≡ [] = at_end (next x) q0.2 q0.1 in
    rw (q0.0, z)
complete listing x h w e =
    let z : x ≡ [] = at_end x w e in
    rw z

-- what is read is said
bind_then : {A B P : Type 0} (r : Option A) (k : A → Option B) (y : B) → bind r k ≡ Some y → ((x : A) → r ≡ Some x → k x ≡ Some y → P) → P
bind_then None k y e f = absurd (none-some y e)
bind_then (Some x) k y e f = f x refl e

sound_65 : (x : List ℕ) (a : Asked) → said 65 x ≡ Some a → Found 65 x a
sound_65 x a e =
    bind_then (a_number x) _ a e (λ n q0 e0. let s0 = number_said x n q0 in
    bind_then (a_number (next x)) _ a e0 (λ p q1 e1. let s1 = number_said (next x) p q1 in
    bind_then (a_number (next (next x))) _ a e1 (λ f q2 e2. let s2 = number_said (next (next x)) f q2 in
    bind_then (a_number (next (next (next x)))) _ a e2 (λ t q3 e3. let s3 = number_said (next (next (next x))) t q3 in
    bind_then (a_capitals (next (next (next (next x))))) _ a e3 (λ s q4 e4. let s4 = capitals_said (next (next (next (next x)))) s q4 in
    bind_then (a_number (next (next (next (next (next x)))))) _ a e4 (λ r q5 e5. let s5 = number_said (next (next (next (next (next x))))) r q5 in
    let u = end_said (next (next (next (next (next (next x)))))) (adding (record { number = n; place = p; first = f; last = t; classes = s; route = r })) a e5 in let z = ap fields u.0 in
    subst (λ (k : Asked). Found 65 x k) u.1 (record { letter = refl; at = s0.0.at; fields = cc (s0.0.fields, s1.0.fields, s2.0.fields, s3.0.fields, s4.0.fields, s5.0.fields, z); lawful = (s0.1, s1.1, s2.1, s3.1, s4.1, s5.1) })))))))

sound_68 : (x : List ℕ) (a : Asked) → said 68 x ≡ Some a → Found 68 x a
sound_68 x a e =
    bind_then (a_number x) _ a e (λ n q0 e0. let s0 = number_said x n q0 in
    let u = end_said (next x) (dropping n) a e0 in let z = ap fields u.0 in
    subst (λ (k : Asked). Found 68 x k) u.1 (record { letter = refl; at = s0.0.at; fields = cc (s0.0.fields, z); lawful = s0.1 }))

sound_77 : (x : List ℕ) (a : Asked) → said 77 x ≡ Some a → Found 77 x a
sound_77 x a e =
    bind_then (a_number x) _ a e (λ n q0 e0. let s0 = number_said x n q0 in
    bind_then (a_number (next x)) _ a e0 (λ p q1 e1. let s1 = number_said (next x) p q1 in
    let u = end_said (next (next x)) (moving n p) a e1 in let z = ap fields u.0 in
    subst (λ (k : Asked). Found 77 x k) u.1 (record { letter = refl; at = s0.0.at; fields = cc (s0.0.fields, s1.0.fields, z); lawful = (s0.1, s1.1) })))

sound_84 : (x : List ℕ) (a : Asked) → said 84 x ≡ Some a → Found 84 x a
sound_84 x a e =
    bind_then (a_mark x) _ a e (λ b q0 e0. let s0 = mark_said x b q0 in
    bind_then (a_number (next x)) _ a e0 (λ m q1 e1. let s1 = number_said (next x) m q1 in
    let u = end_said (next (next x)) (joining (record { class = b; number = m })) a e1 in let z = ap fields u.0 in
    subst (λ (k : Asked). Found 84 x k) u.1 (record { letter = refl; at = s0.0.at; fields = cc (s0.0.fields, s1.0.fields, z); lawful = (s0.1, s1.1) })))

sound_83 : (x : List ℕ) (a : Asked) → said 83 x ≡ Some a → Found 83 x a
sound_83 x a e =
    bind_then (a_number x) _ a e (λ t q0 e0. let s0 = number_said x t q0 in
    let u = end_said (next x) (sending t) a e0 in let z = ap fields u.0 in
    subst (λ (k : Asked). Found 83 x k) u.1 (record { letter = refl; at = s0.0.at; fields = cc (s0.0.fields, z); lawful = s0.1 }))

sound_76 : (x : List ℕ) (a : Asked) → said 76 x ≡ Some a → Found 76 x a
sound_76 x a e =
    let u = end_said x listing a e in let z = ap fields u.0 in
    subst (λ (k : Asked). Found 76 x k) u.1 (record { letter = refl; at = ap word u.0; fields = z; lawful = tt })

pub sound : (l : ℕ) (x : List ℕ) (a : Asked) → said l x ≡ Some a → Found l x a
sound l x a e =
    ⊎_elim (λ (t : eqb l 65 ≡ true). let z = eqb-true l 65 t in subst (λ k. Found k x a) (sym z) (sound_65 x a (rw z at e))) (λ (t0 : eqb l 65 ≡ false).
    ⊎_elim (λ (t : eqb l 68 ≡ true). let z = eqb-true l 68 t in subst (λ k. Found k x a) (sym z) (sound_68 x a (rw z at e))) (λ (t1 : eqb l 68 ≡ false).
    ⊎_elim (λ (t : eqb l 77 ≡ true). let z = eqb-true l 77 t in subst (λ k. Found k x a) (sym z) (sound_77 x a (rw z at e))) (λ (t2 : eqb l 77 ≡ false).
    ⊎_elim (λ (t : eqb l 84 ≡ true). let z = eqb-true l 84 t in subst (λ k. Found k x a) (sym z) (sound_84 x a (rw z at e))) (λ (t3 : eqb l 84 ≡ false).
    ⊎_elim (λ (t : eqb l 83 ≡ true). let z = eqb-true l 83 t in subst (λ k. Found k x a) (sym z) (sound_83 x a (rw z at e))) (λ (t4 : eqb l 83 ≡ false).
    ⊎_elim (λ (t : eqb l 76 ≡ true). let z = eqb-true l 76 t in subst (λ k. Found k x a) (sym z) (sound_76 x a (rw z at e))) (λ (t5 : eqb l 76 ≡ false).
    absurd (none-some a (simp (t0, t1, t2, t3, t4, t5) at e))) (cases_Bool (eqb l 76))) (cases_Bool (eqb l 83))) (cases_Bool (eqb l 84))) (cases_Bool (eqb l 77))) (cases_Bool (eqb l 68))) (cases_Bool (eqb l 65))

-- the reader answers what the line says
module _ (xs : List ℕ) (some : 0 < length xs) where
  read_so : (a : Asked) → Says xs a → said (get_or xs 0 0) (between 1 (length xs) xs) ≡ Some a
  read_so a s =
      let f = found_at xs some a (s.1, s.2) in
      ap (λ l. said l (between 1 (length xs) xs)) f.letter ∙ complete a _ f.lawful f.at f.fields

  pub read_line : Line xs → (o : Option Command) → heard o ≡ said (get_or xs 0 0) (between 1 (length xs) xs) → Reads xs (ok_or o BadLine)
  read_line line (Some c) e =
      let s = says_at xs some (asked c) (sound _ _ (asked c) (sym e)) in
      ((line, s.0, s.1), λ a t. let k : Some (asked c) ≡ Some a = e ∙ read_so a t in cc)
  read_line line None e = (refl, λ a t. none-some a (e ∙ read_so a t))
