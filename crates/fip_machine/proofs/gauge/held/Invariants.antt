use Rattle.std.proofs.Common.{◌≡◌, ◌+◌, ◌<◌, ℕ, length}
use Rattle.std.specs.Prelude.{slice_index_or}
use Rattle.fip_language.specs.declared.limits.TheConstants.{MOST_FIELDS}
use Rattle.cell_store.specs.Cells.{count_live}
use Rattle.fip_machine.proofs.gauge.held.Given as goal

abbrev pub invariant-loop-k : goal.invariant-loop-k
invariant-loop-k g l = record {
  done : (j : ℕ) → j < l.k → slice_index_or l.held j 0 ≡ count_live (j + 1) (g.C.Cells.cells l.cells) (g.C.Cells.released l.cells);
  wide : length l.held ≡ MOST_FIELDS;
}
