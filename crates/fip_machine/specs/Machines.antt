-- What callers see of a machine.
use Rattle.std.specs.Prelude.{ℕ, List}
use Rattle.machine_cells.specs.machine_semantics.Cells.{Store}
use Rattle.fip_machine.specs.Tasks.{Stand}

-- its frames, its store, and the words on the store's stack, of which there is none between steps
pub record Seen : Type 0 where
  pub stack : Stand
  pub store : Store
  pub pushed : List ℕ
