use Rattle.std.proofs.Common.{◌≡◌, [], None, subst}
use Rattle.cell_code.specs.Plain.{plain}
use Rattle.machine_cells.specs.machine_semantics.Steps.{next}
use Rattle.machine_cells.specs.Small.{IsSmall, store_of}
use Rattle.machine_step.specs.Coming.{Comes, KnowsAt}
use Rattle.fip_machine.specs.Tasks.{state_with}
use Rattle.fip_machine.specs.Machines.{Seen}
use Rattle.fip_machine.proofs.machine.Machine.step.Goals as goal

pub returns-clause-next : goal.returns-clause-next
returns-clause-next c kinds known going small empty lent =
    let new = state_with c.step.new.self lent (store_of c.step.new.cells.cells c.step.new.cells.released) in
    subst (λ (w : Seen). KnowsAt w.stack.code kinds w.stack.running.function w.stack.running.at → w.stack.ended ≡ None → IsSmall w.store.cells → w.pushed ≡ [] → Comes (state_with w.stack lent w.store) (next kinds (plain w.stack.code.code) (state_with w.stack lent w.store)) c.step.result new c.step.new.self.given) c.self.view_is (λ known going small empty. c.step.ensures.next kinds known going small empty lent) known going small empty
