-- The places of the cells after a run are as few as before it: a step makes no cell.
use Rattle.std.proofs.Common.{◌≡◌, ◌∙◌, ℕ, length, sym, ap, arith}
use Rattle.command_eval.specs.machine_correctness.machine_semantics.Cells.{size_in}
use Rattle.code_verify.specs.cell_code.Plain.{PlainCode}
use Rattle.command_eval.specs.machine_correctness.machine_semantics.Kept.{Keeps}
use Rattle.command_eval.specs.machine_correctness.machine_semantics.Runs.{End, Over, state_of, begun, after}
use Rattle.command_eval.specs.machine_correctness.machine_semantics.States.{State}
use Rattle.command_eval.specs.machine_correctness.machine_semantics.Steps.{Kinds}
use Rattle.command_eval.proofs.machine_correctness.separation_bounds.Falling.{start_keeps}
use Rattle.command_eval.proofs.machine_correctness.separation_kinds.Basics.{length_map}
use Rattle.fip_machine.specs.machine_cells.Small.{IsSmall}

as_many : (s t : State) → Keeps s.store t.store → length t.store.cells ≡ length s.store.cells
as_many s t k = sym (length_map size_in t.store.cells) ∙ ap (λ xs. length xs) k.sizes ∙ length_map size_in s.store.cells

pub ends_small : (kinds : Kinds) (code : PlainCode) (k : ℕ) (s : State) (calls : ℕ) (e : End) (last : State) (left steps : ℕ) → after kinds code k (begun s calls) ≡ Over e last left steps → IsSmall s.store.cells → IsSmall last.store.cells
ends_small kinds code k s calls e last left steps is small =
    let same = ap (λ r. length (state_of r).store.cells) is in
    let many = as_many s (state_of (after kinds code k (begun s calls))) (start_keeps kinds code k s calls) in
    omega (arith, same, many, small)
