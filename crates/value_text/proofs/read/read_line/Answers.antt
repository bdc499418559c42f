use Rattle.std.proofs.Common.{refl}
use Rattle.value_text.specs.Reading.{outline}
use Rattle.value_text.specs.Loaded.{types_of}
use Rattle.value_text.proofs.Steps.{line_step, line_bad, end_step, end_bad}
use Rattle.value_text.proofs.read.read_line.Goals as goal

pub returns-in-Ok-clause-reads : goal.returns-in-Ok-clause-reads
returns-in-Ok-clause-reads c = λ tb s g e. end_step tb c.args.bytes.now c.args.cursor.now.at c.args.cursor.now.at (outline c.args.cursor.now) (outline c.args.cursor.now) s g e c.requires.next c.requires.frames c.in-None.ensures (λ vs. c.in-Ok.ensures tb vs)

pub returns-in-Err-clause-reads : goal.returns-in-Err-clause-reads
returns-in-Err-clause-reads c = λ tb s g e. end_bad tb c.args.bytes.now c.args.cursor.now.at c.in-Err.at (outline c.args.cursor.now) s g e c.requires.next c.requires.frames c.in-None.ensures (λ vs. c.in-Err.ensures tb vs)

pub returns-in-Ok-sign-clause-reads : goal.returns-in-Ok-sign-clause-reads
returns-in-Ok-sign-clause-reads c = λ tb s g e. line_step tb c.args.bytes.now c.args.cursor.now.at c.in-Ok-sign.at c.in-Some.k (types_of c.in-Some.lines.now) (outline c.args.cursor.now) (types_of c.in-Some.lines.now) s e c.requires.next c.requires.frames c.in-Some.ensures refl (λ s. c.in-Ok-sign.ensures.reads tb s)

pub returns-in-Err-sign-clause-reads : goal.returns-in-Err-sign-clause-reads
returns-in-Err-sign-clause-reads c = λ tb s g e. line_bad tb c.args.bytes.now c.args.cursor.now.at c.in-Err-sign.at (outline c.args.cursor.now) s c.in-Some.k (types_of c.in-Some.lines.now) e c.requires.next c.requires.frames c.in-Some.ensures (λ s. c.in-Err-sign.ensures.reads tb s)
