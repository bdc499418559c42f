-- A rule is known by its number.
use Rattle.std.proofs.Common.{◌≡◌, ◌==◌, ℕ, if◌then◌else◌, refl, sym, ap, ◌∙◌}
use Rattle.cell_lower.specs.fip_language.declared.rule.Rule.{Rule}
use Rattle.cell_lower.specs.fip_language.declared.rule.Rule.TheVariants as R
use Rattle.cell_lower.specs.fip_language.RuleOrder.{number}

abbrev rule_of : ℕ → Rule
rule_of n =
    if n == 1 then R.E01 else
    if n == 2 then R.E02 else
    if n == 3 then R.E03 else
    if n == 4 then R.E04 else
    if n == 5 then R.E05 else
    if n == 10 then R.E10 else
    if n == 11 then R.E11 else
    if n == 12 then R.E12 else
    if n == 13 then R.E13 else
    if n == 14 then R.E14 else
    if n == 15 then R.E15 else
    if n == 20 then R.E20 else
    if n == 21 then R.E21 else
    if n == 22 then R.E22 else
    if n == 23 then R.E23 else
    if n == 30 then R.E30 else
    if n == 31 then R.E31 else
    if n == 32 then R.E32 else
    if n == 33 then R.E33 else
    if n == 34 then R.E34 else
    if n == 40 then R.E40 else
    if n == 41 then R.E41 else
    if n == 42 then R.E42 else
    if n == 43 then R.E43 else
    if n == 50 then R.E50 else
    if n == 51 then R.E51 else
    if n == 52 then R.E52 else
    if n == 53 then R.E53 else
    if n == 54 then R.E54 else
    if n == 55 then R.E55 else
    if n == 56 then R.E56 else
    if n == 57 then R.E57 else
    if n == 58 then R.E58 else
    if n == 59 then R.E59 else
    if n == 60 then R.E60 else
    if n == 61 then R.E61 else
    if n == 62 then R.E62 else
    if n == 63 then R.E63 else
    if n == 70 then R.E70 else
    if n == 71 then R.E71 else
    if n == 72 then R.E72 else
    if n == 73 then R.E73 else
    if n == 74 then R.E74 else
    R.E75

back : (r : Rule) → rule_of (number r) ≡ r
back R.E01 = refl
back R.E02 = refl
back R.E03 = refl
back R.E04 = refl
back R.E05 = refl
back R.E10 = refl
back R.E11 = refl
back R.E12 = refl
back R.E13 = refl
back R.E14 = refl
back R.E15 = refl
back R.E20 = refl
back R.E21 = refl
back R.E22 = refl
back R.E23 = refl
back R.E30 = refl
back R.E31 = refl
back R.E32 = refl
back R.E33 = refl
back R.E34 = refl
back R.E40 = refl
back R.E41 = refl
back R.E42 = refl
back R.E43 = refl
back R.E50 = refl
back R.E51 = refl
back R.E52 = refl
back R.E53 = refl
back R.E54 = refl
back R.E55 = refl
back R.E56 = refl
back R.E57 = refl
back R.E58 = refl
back R.E59 = refl
back R.E60 = refl
back R.E61 = refl
back R.E62 = refl
back R.E63 = refl
back R.E70 = refl
back R.E71 = refl
back R.E72 = refl
back R.E73 = refl
back R.E74 = refl
back R.E75 = refl

pub rule_once : (r q : Rule) → number r ≡ number q → r ≡ q
rule_once r q e = sym (back r) ∙ ap rule_of e ∙ back q
