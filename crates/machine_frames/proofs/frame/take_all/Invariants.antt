-- What is left to write gives the words at the end.
use Rattle.std.proofs.Common.{◌≡◌, Some, drop}
use Rattle.fip_language.specs.Store.{Cell}
use Rattle.cell_store.specs.Cells.{cell_at}
use Rattle.machine_frames.specs.Keeping.{Keeps}
use Rattle.machine_frames.specs.Words.{put_words}
use Rattle.machine_frames.proofs.frame.take_all.Given as goal

abbrev pub invariant-loop-i : goal.invariant-loop-i
invariant-loop-i g l = record {
  keeps : Keeps l.base l.initial.words l.words;
  fields : (c : Cell) → cell_at (g.C.Cells.cells l.cells) l.place ≡ Some c →
      put_words l.base l.words (drop l.i l.registers) (drop l.i c.fields) ≡ put_words l.base l.initial.words l.registers c.fields;
}
