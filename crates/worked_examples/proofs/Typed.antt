-- What small programs break of the rules on types, by computation alone.
use Rattle.std.proofs.Common.{◌≡◌, pos, [], ◌∷◌, refl}
use Rattle.std.specs.Prelude.{codes}
use Rattle.source_report.specs.fip_language.declared.rule.Rule.TheVariants.{E30, E31}
use Rattle.source_report.specs.fip_language.Example.{at, here}
use Rattle.source_report.specs.fip_trees.Least.{violation}
use Rattle.source_report.specs.fip_trees.Tree.{Literal}
use Rattle.source_report.specs.instance_semantics.Example.{lists, nil}
use Rattle.source_report.specs.type_check.Faults.{type_faults, filled}
use Rattle.worked_examples.specs.Programs.{number_with, unknown_variable}

pub lists_break_none : type_faults lists ≡ []
lists_break_none = refl

pub lists_are_filled : filled lists ≡ lists
lists_are_filled = refl

pub nil_is_no_int : type_faults (number_with nil) ≡ violation E30 here 0 0 [] ∷ []
nil_is_no_int = refl

pub y_is_unknown : type_faults (number_with unknown_variable) ≡ violation E31 (at 4 40) 0 0 (codes "y") ∷ []
y_is_unknown = refl

pub seven_is_an_int : type_faults (number_with (Literal (pos 7) here)) ≡ []
seven_is_an_int = refl

pub ruleset computed = (lists_break_none, lists_are_filled, nil_is_no_int, y_is_unknown, seven_is_an_int)
