use Rattle.std.proofs.Common.{◌≡◌, ◌^◌, ◌≤◌, length}
use Rattle.fip_base.specs.fip_language.Store.{Parts, words_of}
use Rattle.value_text.specs.Loaded.{types_of}
use Rattle.value_text.specs.Standing.{StandAll as CellsStand}
use Rattle.plain_rows.proofs.Loaded.{AreLeft}
use Rattle.plain_rows.proofs.load.Rows.of.Given as goal

abbrev pub invariant-loop-param : goal.invariant-loop-param
invariant-loop-param l = length l.cells.cells ≤ 2 ^ 32 → (trees : Parts) → CellsStand l.types l.cells.cells (types_of l.params) trees → l.words ≡ words_of trees → AreLeft l.types l.cells.cells (types_of l.param-iterator.a.rest.now) l.param-iterator.b.rest.now l.rows trees
