use Rattle.std.proofs.Common.{sym}
use Rattle.fip_machine.specs.Pausing.{cursor_of}
use Rattle.fip_machine.proofs.Resuming.{task_again}
use Rattle.std.specs.Vec.{vec_capacity, vec_len}
use Rattle.fip_machine.proofs.stack.paused.Paused.resume.Goals as goal

pub invariant_of-result : goal.invariant_of-result
invariant_of-result c =
    let p = c.args.self in
    let v = c.args.verified.now in
    task_again v p.bounds p.words.items (vec_capacity p.words) (vec_len p.beside.spare) p.ended (cursor_of v p.place) c.instrs_of.result (sym c.instrs_of.ensures.is) c.requires.can
