-- Violations are in one order, so that there is one least.
use Rattle.std.proofs.Common.{◌≡◌, ℕ, zero, suc, ◌<◌, ◌≤◌, ◌⊎◌, inl, inr, refl, sym, ap, ◌∙◌, arith}
use Rattle.code_rules.specs.declared.rule.SoundRule.{SoundRule}
use Rattle.code_rules.specs.declared.rule.SoundRule.TheVariants.{S0, S1, S2, S3, S4, S5, S6, S7, S8, S9}
use Rattle.cell_code.specs.Plain.{PlainCode}
use Rattle.code_rules.specs.Breaks.{digit, IsBefore, IsLeast}

abbrev rule_of : ℕ → SoundRule
rule_of zero = S0
rule_of (suc zero) = S1
rule_of (suc (suc zero)) = S2
rule_of (suc (suc (suc zero))) = S3
rule_of (suc (suc (suc (suc zero)))) = S4
rule_of (suc (suc (suc (suc (suc zero))))) = S5
rule_of (suc (suc (suc (suc (suc (suc zero)))))) = S6
rule_of (suc (suc (suc (suc (suc (suc (suc zero))))))) = S7
rule_of (suc (suc (suc (suc (suc (suc (suc (suc zero)))))))) = S8
rule_of (suc (suc (suc (suc (suc (suc (suc (suc (suc n))))))))) = S9

rule_of-digit : (r : SoundRule) → rule_of (digit r) ≡ r
rule_of-digit S0 = refl
rule_of-digit S1 = refl
rule_of-digit S2 = refl
rule_of-digit S3 = refl
rule_of-digit S4 = refl
rule_of-digit S5 = refl
rule_of-digit S6 = refl
rule_of-digit S7 = refl
rule_of-digit S8 = refl
rule_of-digit S9 = refl

same_rule : (r s : SoundRule) → digit r ≡ digit s → r ≡ s
same_rule r s e = sym (rule_of-digit r) ∙ ap rule_of e ∙ rule_of-digit s

-- two violations each of which comes before the other are one
both_ways : (n i : ℕ) (r : SoundRule) (m j : ℕ) (s : SoundRule) → IsBefore n i r m j s → IsBefore m j s n i r → (n ≡ m) × (i ≡ j) × (r ≡ s)
both_ways n i r m j s (inl x) (inl y) = absurd (omega (arith, x, y))
both_ways n i r m j s (inl x) (inr y) = (let e = y.0 in absurd (omega (arith, x, e)))
both_ways n i r m j s (inr x) (inl y) = (let e = x.0 in absurd (omega (arith, y, e)))
both_ways n i r m j s (inr x) (inr y) = (let k = at x.1 y.1 in (x.0, k.0, k.1))
  where
    at : (i < j) ⊎ ((i ≡ j) × (digit r ≤ digit s)) → (j < i) ⊎ ((j ≡ i) × (digit s ≤ digit r)) → (i ≡ j) × (r ≡ s)
    at (inl a) (inl b) = absurd (omega (arith, a, b))
    at (inl a) (inr b) = (let e = b.0 in absurd (omega (arith, a, e)))
    at (inr a) (inl b) = (let e = a.0 in absurd (omega (arith, b, e)))
    at (inr a) (inr b) = (let l = a.1 in let k = b.1 in (a.0, same_rule r s (omega (arith, l, k))))

pub least_once : (c : PlainCode) (n i : ℕ) (r : SoundRule) (m j : ℕ) (s : SoundRule) → IsLeast c n i r → IsLeast c m j s → (n ≡ m) × (i ≡ j) × (r ≡ s)
least_once c n i r m j s x y = both_ways n i r m j s (x.least m j s y.breaks) (y.least n i r x.breaks)
