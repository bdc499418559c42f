-- The number in the name of a rule, by which violations at one place are ordered.
use Rattle.std.specs.Prelude.{ℕ}
use Rattle.fip_language.specs.declared.rule.Rule.{Rule}
use Rattle.fip_language.specs.declared.rule.Rule.TheVariants as R

-- the number in a rule's name
abbrev pub number : Rule → ℕ
number R.E01 = 1
number R.E02 = 2
number R.E03 = 3
number R.E04 = 4
number R.E05 = 5
number R.E10 = 10
number R.E11 = 11
number R.E12 = 12
number R.E13 = 13
number R.E14 = 14
number R.E15 = 15
number R.E20 = 20
number R.E21 = 21
number R.E22 = 22
number R.E23 = 23
number R.E30 = 30
number R.E31 = 31
number R.E32 = 32
number R.E33 = 33
number R.E34 = 34
number R.E40 = 40
number R.E41 = 41
number R.E42 = 42
number R.E43 = 43
number R.E50 = 50
number R.E51 = 51
number R.E52 = 52
number R.E53 = 53
number R.E54 = 54
number R.E55 = 55
number R.E56 = 56
number R.E57 = 57
number R.E58 = 58
number R.E59 = 59
number R.E60 = 60
number R.E61 = 61
number R.E62 = 62
number R.E63 = 63
number R.E70 = 70
number R.E71 = 71
number R.E72 = 72
number R.E73 = 73
number R.E74 = 74
number R.E75 = 75
