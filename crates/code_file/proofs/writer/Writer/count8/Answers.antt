use Rattle.std.proofs.Common.{◌∙◌, ap, arith}
use Rattle.code_file.specs.Written.{after}
use Rattle.code_file.proofs.Numbers.{one_none}
use Rattle.code_file.proofs.Writing.{after_missing}
use Rattle.code_file.proofs.writer.Writer.count8.Goals as goal

pub returns-in-Err : goal.returns-in-Err
returns-in-Err c = ap (after c.args.self.now) (one_none c.args.count (omega (arith, c.in-Err.ensures))) ∙ after_missing c.args.self.now
