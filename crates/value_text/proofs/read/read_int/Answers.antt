use Rattle.std.proofs.Common.{sym, to_z, of_z}
use Rattle.std.specs.Int.{w64}
use Rattle.std.proofs.lemmas.Int.{to_z-of_z}
use Rattle.value_text.specs.Reading.{outline}
use Rattle.value_text.proofs.Steps.{number_step, value_bad}
use Rattle.value_text.proofs.read.read_int.Goals as goal

pub returns-in-Ok-clause-reads : goal.returns-in-Ok-clause-reads
returns-in-Ok-clause-reads c = λ tb s e. number_step tb c.args.bytes.now c.args.cursor.now.at c.in-Ok.at (outline c.args.cursor.now) s c.in-Ok.i (to_z w64 (of_z w64 c.in-Ok.i)) e c.requires.next (sym (to_z-of_z w64 c.in-Ok.i c.in-Ok.ensures.fits)) (λ a. c.in-Ok.ensures.reads tb a)

pub returns-in-Err-clause-reads : goal.returns-in-Err-clause-reads
returns-in-Err-clause-reads c = λ tb s e. value_bad tb c.args.bytes.now c.args.cursor.now.at 0 c.in-Err.at (outline c.args.cursor.now) s e c.requires.next (λ a. c.in-Err.ensures.reads tb a)
