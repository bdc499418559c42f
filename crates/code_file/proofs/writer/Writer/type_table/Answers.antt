use Rattle.std.proofs.Common.{◌∙◌, ap, length, arith}
use Rattle.code_file.specs.Spelling.{two, each}
use Rattle.code_file.specs.CodeText.{type_text, table_text}
use Rattle.code_file.specs.Written.{after}
use Rattle.code_file.proofs.Numbers.{two_none}
use Rattle.code_file.proofs.Writing.{after_missing, after_none}
use Rattle.code_file.proofs.writer.Writer.type_table.Goals as goal

pub returns-in-Err : goal.returns-in-Err
unfolding table_text
returns-in-Err c =
    after_none c.args.self.now (two (length c.args.types.now)) (each type_text c.args.types.now)
    (ap (after c.args.self.now) (two_none (length c.args.types.now) (omega (arith, c.in-Err.ensures, c.len.ensures.count))) ∙ after_missing c.args.self.now)
