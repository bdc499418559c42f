-- The order of the rules. A program is checked phase by phase, and a phase has violations only where the earlier ones
-- have none; within a phase the violations are ordered by place, and at one place by the numbers of their rules.
use Rattle.std.specs.Prelude.{ℕ}
use Rattle.fip_language.specs.declared.rule.Rule.{Rule}
use Rattle.fip_language.specs.declared.rule.Rule.TheVariants as R
pub use Rattle.fip_language.specs.RuleNumber.{number}

-- the phase in which a rule is checked, from 1
abbrev pub phase : Rule → ℕ
-- the source's length
phase R.E05 = 1
-- its bytes
phase R.E01 = 2
-- its tokens
phase R.E02 = 3
phase R.E03 = 3
phase R.E04 = 3
-- declarations
phase R.E10 = 4
phase R.E11 = 4
phase R.E12 = 4
phase R.E13 = 4
phase R.E14 = 4
phase R.E15 = 4
phase R.E63 = 4
-- static parameters
phase R.E20 = 5
phase R.E21 = 5
phase R.E22 = 5
phase R.E23 = 5
-- types
phase R.E30 = 6
phase R.E31 = 6
phase R.E32 = 6
phase R.E33 = 6
phase R.E34 = 6
-- patterns
phase R.E42 = 7
phase R.E43 = 7
-- coverage
phase R.E40 = 8
phase R.E41 = 8
-- ownership
phase R.E50 = 9
phase R.E51 = 9
phase R.E52 = 9
phase R.E53 = 9
phase R.E54 = 9
phase R.E55 = 9
-- credits
phase R.E56 = 10
phase R.E57 = 10
phase R.E58 = 10
phase R.E62 = 10
-- calls outside tail position
phase R.E59 = 11
-- registers
phase R.E60 = 12
-- what is made of a program that breaks none of these: its entry, its code, its proofs and traces
phase _ = 13
