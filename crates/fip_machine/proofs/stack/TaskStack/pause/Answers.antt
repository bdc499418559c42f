use Rattle.std.proofs.Common.{◌≡◌, sym, ap, subst, ◌∙◌, List}
use Rattle.std.specs.Vec.{vec_capacity, vec_len}
use Rattle.machine_step.specs.code_verify.Checked.{Checked}
use Rattle.fip_machine.specs.Pausing.{instrs_at, cursor_of, CanResume}
use Rattle.fip_machine.specs.Tasks.{Stand}
use Rattle.fip_machine.proofs.Resuming.{placed_instrs, task_again}
use Rattle.fip_machine.proofs.stack.TaskStack.pause.Goals as goal

pub returns-clause-can : goal.returns-clause-can
returns-clause-can c =
    let t = c.self.inside in
    let v = t.verified.now in
    let e = placed_instrs v t.bounds _ t.cursor c.self.invariant.placed in
    subst (λ (w : Checked). CanResume w (record { bounds = t.bounds; words = t.words; beside = t.beside; place = record { registers = t.cursor.registers; function = t.cursor.function; at = t.cursor.at; base = t.cursor.base; frames = t.cursor.frames; highest = t.cursor.highest }; ended = t.ended })) (ap (λ (s : Stand). s.code) c.self.view_is) (task_again v t.bounds t.words.items (vec_capacity t.words) (vec_len t.beside.spare) t.ended t.cursor (record { ref_ptr = (0, 0); now = instrs_at v.code.functions.items t.cursor.function }) e c.self.invariant)
