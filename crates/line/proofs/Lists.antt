-- Numbers, each after a space.
use Rattle.std.proofs.Common.{◌≡◌, ℕ, List, [], ◌∷◌, ◌++◌, map, decimal, sym, ap, ◌∙◌, append_assoc, append-nil}
use Rattle.line.specs.Words.{spread}

pub spread_push : (ns : List ℕ) (n : ℕ) → spread (map decimal (ns ++ (n ∷ []))) ≡ spread (map decimal ns) ++ (32 ∷ decimal n)
spread_push [] n = ap (λ (l : List ℕ). 32 ∷ l) (append-nil (decimal n))
spread_push (m ∷ ns) n = ap (λ (l : List ℕ). 32 ∷ (decimal m ++ l)) (spread_push ns n) ∙ ap (λ (l : List ℕ). 32 ∷ l) (sym (append_assoc (decimal m) _ _))
