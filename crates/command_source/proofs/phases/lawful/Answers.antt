use Rattle.std.proofs.Common.{subst}
use Rattle.fip_trees.specs.TreeView.{program}
use Rattle.program_front.specs.cell_lower.LaidProgram.{IsAsked, IsLaidOut}
use Rattle.cell_code.specs.Plain.{plain}
use Rattle.machine_correctness.proofs.compiler_correctness.SoundnessFunctions.{headed_in_memory}
use Rattle.machine_correctness.proofs.compiler_correctness.SoundnessWhole.{laid_out_is_sound}
use Rattle.machine_correctness.proofs.compiler_correctness.StackNumbers.{laid_out_has_stacks}
use Rattle.command_source.proofs.Compiling.{headed, has_file, lists_few}
use Rattle.command_source.proofs.Reported.{report_keeps}
use Rattle.command_source.proofs.phases.lawful.Goals as goal

pub returns-in-Err-clause-kept : goal.returns-in-Err-clause-kept
returns-in-Err-clause-kept c = λ w. report_keeps c.args.source.now w c.failure_of.result (c.failure_of.ensures.reported c.in-Err.ensures.reported)

pub returns-in-Ok-clause-code : goal.returns-in-Ok-clause-code
returns-in-Ok-clause-code c = headed (program c.in-Ok.lowered.typed.program) c.in-Ok.lowered.code c.in-Ok.lowered.groups c.in-Ok.ensures.groups c.in-Ok.ensures.types c.in-Ok.ensures.functions c.in-Ok.ensures.lowered c.in-Ok.ensures.bounded
    (let p = program c.in-Ok.lowered.typed.program in
    lists_few c.args.source.now p c.in-Ok.lowered.code c.in-Ok.ensures.accepted
    (subst (λ ns. IsAsked p ns → IsLaidOut p (plain c.in-Ok.lowered.code)) c.in-Ok.ensures.needs c.in-Ok.ensures.laid))
    (let p = program c.in-Ok.lowered.typed.program in
    laid_out_has_stacks c.args.source.now p c.in-Ok.ensures.accepted (plain c.in-Ok.lowered.code)
    (headed_in_memory p c.in-Ok.lowered.groups c.in-Ok.lowered.code c.in-Ok.ensures.groups c.in-Ok.ensures.types c.in-Ok.ensures.functions)
    (subst (λ ns. IsAsked p ns → IsLaidOut p (plain c.in-Ok.lowered.code)) c.in-Ok.ensures.needs c.in-Ok.ensures.laid))

pub returns-in-Ok-clause-sound : goal.returns-in-Ok-clause-sound
returns-in-Ok-clause-sound c =
    let p = program c.in-Ok.lowered.typed.program in
    laid_out_is_sound c.args.source.now p c.in-Ok.ensures.accepted (plain c.in-Ok.lowered.code)
    (headed_in_memory p c.in-Ok.lowered.groups c.in-Ok.lowered.code c.in-Ok.ensures.groups c.in-Ok.ensures.types c.in-Ok.ensures.functions)
    (subst (λ ns. IsAsked p ns → IsLaidOut p (plain c.in-Ok.lowered.code)) c.in-Ok.ensures.needs c.in-Ok.ensures.laid)

pub returns-in-Ok-clause-filed : goal.returns-in-Ok-clause-filed
returns-in-Ok-clause-filed c = has_file c.args.source.now (program c.in-Ok.lowered.typed.program) c.in-Ok.lowered.code c.in-Ok.ensures.accepted (returns-in-Ok-clause-code c) c.in-Ok.ensures.spelt (returns-in-Ok-clause-sound c)
