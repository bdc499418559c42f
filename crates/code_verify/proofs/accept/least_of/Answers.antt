use Rattle.std.proofs.Common.{◌≡◌, ◌∙◌, ◌+◌, ◌<◌, length, sym, subst, refl, arith}
use Rattle.std.proofs.lemmas.Grind.{common_steps}
use Rattle.std.proofs.lemmas.List.{length-map}
use Rattle.cell_code.specs.Plain.{plain_function, plain}
use Rattle.code_rows.specs.Noting.{Answers}
use Rattle.code_verify.specs.Surveying.{OwnBelow}
use Rattle.code_verify.proofs.OwnCalls.{none_own, own_turn}
use Rattle.code_verify.proofs.Running.{is_at}
use Rattle.code_verify.proofs.accept.least_of.Goals as goal

pub loop-number-init : goal.loop-number-init
loop-number-init c =
    none_own (plain c.args.code.now) (length (plain c.args.code.now).functions) c.args.survey.now.walked.least.first c.requires.survey.walked.least

pub loop-number-preserved : goal.loop-number-preserved
loop-number-preserved c =
    let code = c.args.code.now in
    let survey = c.args.survey.now in
    let n = c.loop-number.number in
    let within : n < length code.functions.items = grind (arith, common_steps) in
    let long = length-map code.functions.items plain_function in
    own_turn (plain code) (length (plain code).functions) n (n + 1) (plain_function c.function_at.result.now) survey.groups
    survey.walked.calls.items survey.walked.waiting.items survey.walked.drops.items c.loop-number.least.first c.note_own.new.least.first refl
    (omega (arith, within, long)) (omega arith) (is_at code n c.function_at.result.now c.function_at.ensures.is)
    c.requires.survey.walked.rows_are c.requires.survey.groups c.note_own.ensures c.loop-number.invariant

pub returns : goal.returns
returns c =
    let code = c.args.code.now in
    let functions = code.functions.items in
    let all : c.loop-number.number ≡ length functions = grind (arith, common_steps) in
    let same : c.loop-number.number ≡ length (plain code).functions = all ∙ sym (length-map functions plain_function) in
    subst (λ n. Answers (OwnBelow (plain code) (length (plain code).functions) n) c.loop-number.least.first) same c.loop-number.invariant
