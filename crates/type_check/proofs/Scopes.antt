-- Scopes that go on from one another.
use Rattle.std.proofs.Common.{◌≡◌, ℕ, zero, suc, ◌≤◌, [], ◌∷◌, ◌++◌, length, take, refl, sym, ap, ◌∙◌, arith}
use Rattle.type_check.specs.Scope.{Scope, Keeps}

pub keeps_same : (s : Scope) → Keeps s s
keeps_same [] = (omega arith, refl)
keeps_same (e ∷ s) = (omega arith, ap (λ r. e ∷ r) (keeps_same s).1)

pub keeps_more : (s r : Scope) → Keeps s (s ++ r)
keeps_more [] r = (omega arith, refl)
keeps_more (e ∷ s) r = let h = keeps_more s r in let g = h.0 in (omega arith, ap (λ q. e ∷ q) h.1)

take_take : (m n : ℕ) (s : Scope) → m ≤ n → take m (take n s) ≡ take m s
take_take zero n s h = refl
take_take (suc m) zero s h = absurd (omega arith)
take_take (suc m) (suc n) [] h = refl
take_take (suc m) (suc n) (e ∷ s) h = ap (λ r. e ∷ r) (take_take m n s (omega arith))

pub keeps_trans : (s r q : Scope) → Keeps s r → Keeps r q → Keeps s q
keeps_trans s r q h g =
    let a = h.0 in
    let b = g.0 in
    (omega arith, sym (take_take (length s) (length r) q a) ∙ ap (take (length s)) g.1 ∙ h.1)

pub ruleset keeping = (keeps_same, keeps_more, keeps_trans)
