-- What a refusal names is the least violation.
use Rattle.std.proofs.Common.{◌≡◌, ℕ, Result, Ok, Err, ap, subst}
use Rattle.code_rules.specs.declared.rule.SoundRule.{SoundRule}
use Rattle.code_rules.specs.declared.rule.SoundRule.TheVariants.{S0}
use Rattle.cell_code.specs.Plain.{PlainCode}
use Rattle.code_rules.specs.Breaks.{IsLeast}
use Rattle.code_verify.specs.declared.accept.VerifyError.{VerifyError}
use Rattle.code_verify.specs.declared.accept.VerifyError.TheVariants.{Unsound, NoMemory}

abbrev function_of : VerifyError → ℕ
function_of (Unsound n i r) = n
function_of NoMemory = 0

abbrev place_of : VerifyError → ℕ
place_of (Unsound n i r) = i
place_of NoMemory = 0

abbrev rule_of : VerifyError → SoundRule
rule_of (Unsound n i r) = r
rule_of NoMemory = S0

abbrev error_of : {A : Type 0} → Result A VerifyError → VerifyError
error_of (Ok x) = NoMemory
error_of (Err e) = e

pub named : {A : Type 0} (c : PlainCode) (m j : ℕ) (s : SoundRule) → IsLeast c m j s → (n i : ℕ) (r : SoundRule) → ◌≡◌ {A = Result A VerifyError} (Err (Unsound m j s)) (Err (Unsound n i r)) → IsLeast c n i r
named c m j s l n i r e =
    let u : Unsound m j s ≡ Unsound n i r = ap error_of e in
    subst (λ x. IsLeast c x i r) (ap function_of u) (subst (λ y. IsLeast c m y r) (ap place_of u) (subst (λ z. IsLeast c m j z) (ap rule_of u) l))

pub never_named : {A : Type 0} (n i : ℕ) (r : SoundRule) → ◌≡◌ {A = Result A VerifyError} (Err NoMemory) (Err (Unsound n i r)) → ⊥
never_named n i r e = at (ap error_of e)
  where
    is_memory : VerifyError → Type 0
    is_memory (Unsound m j s) = ⊥
    is_memory NoMemory = Unit {0}

    at : NoMemory ≡ Unsound n i r → ⊥
    at h = subst is_memory h tt
