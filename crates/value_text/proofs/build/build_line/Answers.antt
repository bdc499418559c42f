use Rattle.std.proofs.Common.{sym, subst}
use Rattle.std.specs.Prelude.{Err}
use Rattle.value_text.specs.declared.build.Stopped.{Stopped}
use Rattle.value_text.specs.Reading.{outline}
use Rattle.value_text.specs.Building.{Advanced}
use Rattle.value_text.proofs.Advanced.{line_advances, refused_advances}
use Rattle.value_text.proofs.build.build_line.Goals as goal

pub returns-in-Ok-clause-advances : goal.returns-in-Ok-clause-advances
returns-in-Ok-clause-advances c = λ tb l ws known. line_advances tb c.args.bytes.now (outline c.args.cursor.now) c.args.cursor.now.at (outline c.read_line.new.cursor) c.read_line.new.cursor.at ws l c.in-Ok.more (c.in-Ok.ensures.reads tb) (c.in-Ok.ensures.known tb known)

pub returns-in-Err-clause-advances : goal.returns-in-Err-clause-advances
returns-in-Err-clause-advances c = λ tb l ws known.
    subst (λ (e : Stopped). Advanced tb c.args.bytes.now (outline c.args.cursor.now) c.args.cursor.now.at (outline c.read_line.new.cursor) c.read_line.new.cursor.at ws l ws l (Err e)) (sym c.stop_of.ensures)
    (refused_advances tb c.args.bytes.now (outline c.args.cursor.now) c.args.cursor.now.at (outline c.read_line.new.cursor) c.read_line.new.cursor.at ws l ws l c.in-Err.e (c.in-Err.ensures.reads tb))
