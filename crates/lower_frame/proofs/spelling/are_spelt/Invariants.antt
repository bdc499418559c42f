use Rattle.std.proofs.Common.{◌≡◌, ◌<◌, ℕ, Some, slice_get}
use Rattle.cell_code.specs.declared.kind.Kind.{Kind}
use Rattle.code_file.specs.CodeText.{kind_text}
use Rattle.lower_frame.specs.Spelled.{IsSpelt}
use Rattle.lower_frame.proofs.spelling.are_spelt.Given as goal

abbrev pub invariant-loop-kind : goal.invariant-loop-kind
invariant-loop-kind l = (r : ℕ) (k : Kind) → r < l.kind-index → slice_get l.kinds r ≡ Some k → IsSpelt (kind_text k)
