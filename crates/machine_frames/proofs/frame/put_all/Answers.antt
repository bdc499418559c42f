use Rattle.std.proofs.Common.{◌+◌, ◌∙◌, List, [], ◌∷◌, ◌++◌, ℕ, Some, ap, subst, arith, get_or}
use Rattle.std.specs.Prelude.{slice_set}
use Rattle.std.proofs.lemmas.List.{length-set}
use Rattle.cell_store.specs.Reported.{Overwritten}
use Rattle.machine_frames.proofs.Laid.{read_more, all_read}
use Rattle.machine_frames.proofs.frame.put_all.Goals as goal

pub loop-i-preserved : goal.loop-i-preserved
loop-i-preserved g c = record {
  long = length-set c.loop-i.fields c.loop-i.i (get_or c.args.words.now (c.args.base + get_or c.args.registers.now c.loop-i.i 0) 0) ∙ c.loop-i.invariant.long;
  read = read_more c.loop-i.fields (λ j. get_or c.args.words.now (c.args.base + get_or c.args.registers.now j 0) 0) c.loop-i.i (omega arith) c.loop-i.invariant.read;
}

pub returns-clause-cells : goal.returns-clause-cells
returns-clause-cells g c =
    let read = all_read c.args.base c.args.words.now c.args.registers.now c.loop-i.fields (omega arith) (λ j l. c.loop-i.invariant.read j (omega (arith, l))) in
    let set = c.overwrite.ensures.cells in
    set ∙ ap (λ (fs : List ℕ). slice_set (g.C.Cells.cells c.args.cells.now) c.args.place (Some (record { tag = c.args.tag; fields = fs }))) read

pub returns-clause-reported : goal.returns-clause-reported
returns-clause-reported g c first ts reported =
    let read = all_read c.args.base c.args.words.now c.args.registers.now c.loop-i.fields (omega arith) (λ j l. c.loop-i.invariant.read j (omega (arith, l))) in
    subst (λ (fs : List ℕ). g.C.Cells.was_reported first (ts ++ Overwritten c.args.place c.args.tag fs ∷ []) c.overwrite.new.self) read (c.overwrite.ensures.reported first ts reported)
