use Rattle.code_tables.proofs.Marked.{first_marks}
use Rattle.std.proofs.Common.{subst, sym}
use Rattle.code_tables.specs.Marks.{AreMarks}
use Rattle.code_tables.proofs.finite.search.Goals as goal

pub loop-place-init : goal.loop-place-init
loop-place-init c = subst (AreMarks c.args.types.now) (sym c.in_ok-marks.ensures) (first_marks c.args.types.now c.len.result c.len.ensures.count)
