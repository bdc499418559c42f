use Rattle.std.proofs.Common.{◌∙◌, map, IfOk, subst₂}
use Rattle.std.proofs.lemmas.Result.{IfOk-weaker}
use Rattle.call_groups.specs.CallGraph.{rows}
use Rattle.call_groups.specs.Stacks.{AreAsked, AreStacks}
use Rattle.cell_code.specs.Plain.{plain}
use Rattle.code_verify.specs.Checked.{HaveStacks}
use Rattle.code_verify.specs.Surveying.{frame_of}
use Rattle.code_verify.proofs.StackNumbers.{are_asked, have_stacks}
use Rattle.code_verify.proofs.accept.stacks_of.Goals as goal

pub returns : goal.returns
returns c =
    let code = c.args.code.now in
    let survey = c.args.survey.now in
    let frames = map frame_of code.functions.items in
    let cs = survey.walked.calls.items in
    let rows_are = c.requires.survey.walked.rows_are in
    let asked = are_asked code cs survey.walked.waiting.items survey.walked.drops.items survey.groups c.requires.tables c.requires.sound rows_are c.requires.survey.groups in
    let found : IfOk c.stacks.result (λ v. AreAsked (rows cs) survey.groups frames → AreStacks (rows cs) frames v.items) =
    subst₂ (λ x y. IfOk c.stacks.result (λ v. AreAsked (rows x) survey.groups y → AreStacks (rows x) y v.items))
    c.deref.ensures.value (c.deref-2.ensures.value ∙ c.in_ok-frames.ensures) c.stacks.ensures.stacks in
    IfOk-weaker c.stacks.result (λ v. AreAsked (rows cs) survey.groups frames → AreStacks (rows cs) frames v.items)
    (λ v. HaveStacks (plain code) v.items)
    (λ v q. have_stacks code cs survey.walked.waiting.items survey.walked.drops.items v.items rows_are (q asked)) found
