-- For private contracts alone: when a task that goes on never reaches an instruction that can't be done. Its state over
-- these cells is one that a run of sound code may have: the cells of its registers, the kept and the released ones are
-- apart. So rev of Cons(1, Nil) and Nil is safe beside any cells of other values, which are kept.
use Rattle.std.specs.Prelude.{ℕ, List}
use Rattle.separation.specs.cell_code.Plain.{plain}
use Rattle.separation.specs.machine_semantics.Cells.{Store}
use Rattle.separation.specs.machine_semantics.States.{Typed}
use Rattle.separation.specs.Alive.{IsAlive}
use Rattle.fip_machine.specs.Tasks.{Stand, state_with}

pub record IsSafeTask (t : Stand) (s : Store) : Type 0 where
  pub types : List ℕ
  pub kept : List ℕ
  pub lent : List Typed
  pub alive : IsAlive (plain t.code.code) types kept (state_with t lent s)
