use Rattle.std.proofs.Common.{◌≡◌, ◌∙◌, Option, Some, None, length, sym, subst}
use Rattle.cell_code.specs.Plain.{plain}
use Rattle.code_rows.specs.declared.least.Violation.{Violation}
use Rattle.code_rows.specs.Noting.{Answers}
use Rattle.code_verify.specs.Surveying.{OwnBelow}
use Rattle.code_verify.proofs.OwnCalls.{all_noted, none_noted, least_noted}
use Rattle.code_verify.proofs.Reporting.{named}
use Rattle.code_verify.proofs.accept.examine_functions.Goals as goal

pub returns-in-Some-clause-least : goal.returns-in-Some-clause-least
returns-in-Some-clause-least c =
    let code = plain c.args.code.now in
    let v = c.in-Some.violation in
    let is : c.least_of.result.first ≡ Some v = sym c.first.ensures.first ∙ c.in-Some.is in
    let noted : Answers (OwnBelow code (length code.functions) (length code.functions)) (Some v) =
    subst (Answers (OwnBelow code (length code.functions) (length code.functions))) is c.least_of.ensures in
    named code v.function v.at v.rule (least_noted code v (all_noted code (Some v) c.requires.tables noted))

pub returns-in-None-clause-sound : goal.returns-in-None-clause-sound
returns-in-None-clause-sound c =
    let code = plain c.args.code.now in
    let none : Option Violation = None in
    let is : c.least_of.result.first ≡ none = sym c.first.ensures.first ∙ c.in-None.is in
    let noted : Answers (OwnBelow code (length code.functions) (length code.functions)) none =
    subst (Answers (OwnBelow code (length code.functions) (length code.functions))) is c.least_of.ensures in
    none_noted code (all_noted code none c.requires.tables noted)
