-- The names of rules are ordered as their numbers.
use Rattle.std.proofs.Common.{◌≡◌, ℕ, ◌+◌, ◌*◌, ◌<◌, List, [], ◌∷◌, refl, arith}
use Rattle.std.specs.Prelude.{nat_lt}
use Rattle.std.proofs.lemmas.Bool.Decides.{nat_tests}
use Rattle.fip_base.specs.fip_language.declared.rule.Rule.{Rule}
use Rattle.fip_base.specs.fip_language.declared.rule.Rule.TheVariants as R
use Rattle.fip_base.specs.fip_language.RuleOrder.{number}
use Rattle.fip_base.specs.fip_language.RuleText.{rule_text}
use Rattle.fip_trees.specs.Least.{smaller}

-- a number with its two digits
record HasDigits (n : ℕ) (text : List ℕ) : Type 0 where
  tens : ℕ
  ones : ℕ
  sum : n ≡ tens * 10 + ones
  below : ones < 10
  is : text ≡ 69 ∷ (48 + tens) ∷ (48 + ones) ∷ []

digits : (r : Rule) → HasDigits (number r) (rule_text r)
digits R.E01 = record { tens = 0; ones = 1; sum = refl; below = omega arith; is = refl }
digits R.E02 = record { tens = 0; ones = 2; sum = refl; below = omega arith; is = refl }
digits R.E03 = record { tens = 0; ones = 3; sum = refl; below = omega arith; is = refl }
digits R.E04 = record { tens = 0; ones = 4; sum = refl; below = omega arith; is = refl }
digits R.E05 = record { tens = 0; ones = 5; sum = refl; below = omega arith; is = refl }
digits R.E10 = record { tens = 1; ones = 0; sum = refl; below = omega arith; is = refl }
digits R.E11 = record { tens = 1; ones = 1; sum = refl; below = omega arith; is = refl }
digits R.E12 = record { tens = 1; ones = 2; sum = refl; below = omega arith; is = refl }
digits R.E13 = record { tens = 1; ones = 3; sum = refl; below = omega arith; is = refl }
digits R.E14 = record { tens = 1; ones = 4; sum = refl; below = omega arith; is = refl }
digits R.E15 = record { tens = 1; ones = 5; sum = refl; below = omega arith; is = refl }
digits R.E20 = record { tens = 2; ones = 0; sum = refl; below = omega arith; is = refl }
digits R.E21 = record { tens = 2; ones = 1; sum = refl; below = omega arith; is = refl }
digits R.E22 = record { tens = 2; ones = 2; sum = refl; below = omega arith; is = refl }
digits R.E23 = record { tens = 2; ones = 3; sum = refl; below = omega arith; is = refl }
digits R.E30 = record { tens = 3; ones = 0; sum = refl; below = omega arith; is = refl }
digits R.E31 = record { tens = 3; ones = 1; sum = refl; below = omega arith; is = refl }
digits R.E32 = record { tens = 3; ones = 2; sum = refl; below = omega arith; is = refl }
digits R.E33 = record { tens = 3; ones = 3; sum = refl; below = omega arith; is = refl }
digits R.E34 = record { tens = 3; ones = 4; sum = refl; below = omega arith; is = refl }
digits R.E40 = record { tens = 4; ones = 0; sum = refl; below = omega arith; is = refl }
digits R.E41 = record { tens = 4; ones = 1; sum = refl; below = omega arith; is = refl }
digits R.E42 = record { tens = 4; ones = 2; sum = refl; below = omega arith; is = refl }
digits R.E43 = record { tens = 4; ones = 3; sum = refl; below = omega arith; is = refl }
digits R.E50 = record { tens = 5; ones = 0; sum = refl; below = omega arith; is = refl }
digits R.E51 = record { tens = 5; ones = 1; sum = refl; below = omega arith; is = refl }
digits R.E52 = record { tens = 5; ones = 2; sum = refl; below = omega arith; is = refl }
digits R.E53 = record { tens = 5; ones = 3; sum = refl; below = omega arith; is = refl }
digits R.E54 = record { tens = 5; ones = 4; sum = refl; below = omega arith; is = refl }
digits R.E55 = record { tens = 5; ones = 5; sum = refl; below = omega arith; is = refl }
digits R.E56 = record { tens = 5; ones = 6; sum = refl; below = omega arith; is = refl }
digits R.E57 = record { tens = 5; ones = 7; sum = refl; below = omega arith; is = refl }
digits R.E58 = record { tens = 5; ones = 8; sum = refl; below = omega arith; is = refl }
digits R.E59 = record { tens = 5; ones = 9; sum = refl; below = omega arith; is = refl }
digits R.E60 = record { tens = 6; ones = 0; sum = refl; below = omega arith; is = refl }
digits R.E61 = record { tens = 6; ones = 1; sum = refl; below = omega arith; is = refl }
digits R.E62 = record { tens = 6; ones = 2; sum = refl; below = omega arith; is = refl }
digits R.E63 = record { tens = 6; ones = 3; sum = refl; below = omega arith; is = refl }
digits R.E70 = record { tens = 7; ones = 0; sum = refl; below = omega arith; is = refl }
digits R.E71 = record { tens = 7; ones = 1; sum = refl; below = omega arith; is = refl }
digits R.E72 = record { tens = 7; ones = 2; sum = refl; below = omega arith; is = refl }
digits R.E73 = record { tens = 7; ones = 3; sum = refl; below = omega arith; is = refl }
digits R.E74 = record { tens = 7; ones = 4; sum = refl; below = omega arith; is = refl }
digits R.E75 = record { tens = 7; ones = 5; sum = refl; below = omega arith; is = refl }

by_digits : (a b c d : ℕ) → b < 10 → d < 10 → smaller (69 ∷ (48 + a) ∷ (48 + b) ∷ []) (69 ∷ (48 + c) ∷ (48 + d) ∷ []) ≡ nat_lt (a * 10 + b) (c * 10 + d)
by_digits a b c d h g = grind (arith, nat_tests)

pub by_number : (r q : Rule) → smaller (rule_text r) (rule_text q) ≡ nat_lt (number r) (number q)
by_number r q =
    let x = digits r in
    let y = digits q in
    let e = x.is in
    let f = y.is in
    let n = x.sum in
    let m = y.sum in
    rw (e, f, n, m) (by_digits x.tens x.ones y.tens y.ones x.below y.below)
