use Rattle.std.proofs.lemmas.Result.{err_from_is_err_and}
use Rattle.code_file.specs.Written.{second_text}
use Rattle.code_file.specs.Spelling.{each}
use Rattle.code_file.specs.Written.{after}
use Rattle.code_file.proofs.Writing.{loop_item_is, loop_fails_is, loop_done}
use Rattle.code_file.proofs.writer.Writer.each_function.Goals as goal

pub returns-in_err-function : goal.returns-in_err-function
returns-in_err-function c =
    let p = err_from_is_err_and c.from_residual.result c.from_residual.ensures.1 in
    rw (p.1, p.2) (loop_fails_is (Unit {0}) (Unit {0}) second_text c.args.functions.now c.loop-function.function-index c.function-item.result c.loop-function.self c.function.new.self c.function.new.self c.in_err-function.field-0.0 (after c.args.self.now (each second_text c.args.functions.now)) c.loop-function-test.true c.function-item.is c.in_err-function.ensures c.loop-function.invariant)

pub loop-function-preserved : goal.loop-function-preserved
loop-function-preserved c = loop_item_is second_text c.args.functions.now c.loop-function.function-index c.function-item.result c.loop-function.self c.function.new.self (after c.args.self.now (each second_text c.args.functions.now)) c.loop-function-test.true c.function-item.is c.in_ok-function.ensures c.loop-function.invariant

pub returns : goal.returns
returns c = loop_done second_text c.args.functions.now c.loop-function.function-index c.loop-function.self (after c.args.self.now (each second_text c.args.functions.now)) c.loop-function-test.false c.loop-function.invariant
