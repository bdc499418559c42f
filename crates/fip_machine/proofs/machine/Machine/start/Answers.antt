use Rattle.machine_cells.specs.Small.{store_of}
use Rattle.fip_machine.proofs.machine.Machine.start.Goals as goal

pub returns-clause-loaded : goal.returns-clause-loaded
returns-clause-loaded c g is few s loads = c.in_ok-stack.ensures.loaded g is few (store_of c.seal.result.cells c.seal.result.released) s loads
