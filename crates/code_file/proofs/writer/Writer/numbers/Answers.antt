use Rattle.std.proofs.Common.{slice_index_or}
use Rattle.std.proofs.lemmas.Result.{err_from_is_err_and}
use Rattle.code_file.specs.Spelling.{four}
use Rattle.code_file.specs.Spelling.{each}
use Rattle.code_file.specs.Written.{after}
use Rattle.code_file.proofs.Writing.{loop_item, loop_fails, loop_done}
use Rattle.code_file.proofs.writer.Writer.numbers.Goals as goal

pub returns-in_err-u32 : goal.returns-in_err-u32
returns-in_err-u32 c =
    let p = err_from_is_err_and c.from_residual.result c.from_residual.ensures.1 in
    rw (p.1, p.2) (loop_fails (Unit {0}) (Unit {0}) four c.args.numbers.now c.loop-number.number-index 0 c.loop-number.self c.u32.new.self c.u32.new.self c.in_err-u32.field-0.0 (after c.args.self.now (each four c.args.numbers.now)) c.loop-number-test.true c.in_err-u32.ensures c.loop-number.invariant)

pub loop-number-preserved : goal.loop-number-preserved
loop-number-preserved c = loop_item four c.args.numbers.now c.loop-number.number-index 0 c.loop-number.self c.u32.new.self (after c.args.self.now (each four c.args.numbers.now)) c.loop-number-test.true c.in_ok-u32.ensures c.loop-number.invariant

pub returns : goal.returns
returns c = loop_done four c.args.numbers.now c.loop-number.number-index c.loop-number.self (after c.args.self.now (each four c.args.numbers.now)) c.loop-number-test.false c.loop-number.invariant
