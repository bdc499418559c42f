use Rattle.std.proofs.Common.{subst}
use Rattle.fip_machine.specs.Tasks.{Stand, IsMeasured}
use Rattle.fip_machine.proofs.Measured.{measured_of}
use Rattle.fip_machine.proofs.stack.TaskStack.frames.Goals as goal

pub returns-clause-measured : goal.returns-clause-measured
returns-clause-measured c =
    let i = c.self.inside in
    let m = measured_of i.verified.now i.bounds i.words.items i.cursor i.beside c.self.invariant.placed.room c.self.invariant.waiting c.self.invariant.high in
    subst (λ (t : Stand). IsMeasured t) c.self.view_is (record { frames = m.frames; words = m.words; most_frames = m.most_frames; most_words = m.most_words })
