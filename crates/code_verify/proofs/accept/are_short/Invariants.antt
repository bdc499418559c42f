use Rattle.std.proofs.Common.{◌≡◌, ◌<◌, ℕ, Some, length}
use Rattle.std.specs.Prelude.{slice_get}
use Rattle.cell_code.specs.declared.code.Function.{Function}
use Rattle.code_verify.proofs.accept.are_short.Given as goal

abbrev pub invariant-loop-function : goal.invariant-loop-function
invariant-loop-function l = (n : ℕ) (g : Function) → n < l.function-index → slice_get l.functions n ≡ Some g → length g.instrs.items < 4294967296
