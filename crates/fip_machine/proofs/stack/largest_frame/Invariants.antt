-- No frame of the functions so far is greater.
use Rattle.std.proofs.Common.{◌≡◌, ◌+◌, ◌<◌, ◌≤◌, ℕ, Some}
use Rattle.std.specs.Prelude.{slice_get}
use Rattle.cell_code.specs.declared.code.Function.{Function}
use Rattle.fip_machine.proofs.stack.largest_frame.Given as goal

abbrev pub invariant-loop-function : goal.invariant-loop-function
invariant-loop-function l = record {
  most : (f : ℕ) (g : Function) → f < l.function-index → slice_get l.function-items f ≡ Some g → g.registers + 2 ≤ l.largest;
  few : l.largest < 100000;
}
