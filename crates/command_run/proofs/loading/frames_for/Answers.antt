use Rattle.std.proofs.Common.{refl, subst}
use Rattle.std.specs.Prelude.{Some}
use Rattle.fip_machine.specs.code_verify.Checked.{Checked}
use Rattle.command_eval.specs.machine_correctness.code_rules.Breaks.{IsSound}
use Rattle.code_verify.specs.cell_code.Plain.{plain}
use Rattle.command_run.proofs.Beginning.{bounded}
use Rattle.command_run.proofs.loading.frames_for.Goals as goal

pub returns-in-Some-clause-few : goal.returns-in-Some-clause-few
returns-in-Some-clause-few c =
    let sound = subst (λ (v : Checked). IsSound (plain v.code)) c.verified.ensures.same c.code.ensures.sound in
    bounded c.args.ready.now c.in-Some.bound sound c.in-Some.ensures.exact

pub returns-in-Some-clause-exact : goal.returns-in-Some-clause-exact
returns-in-Some-clause-exact c = record { held = Some c.in-Some.bound; stack = c.in-Some.ensures.exact; are = refl }
