use Rattle.std.proofs.Common.{slice_index_or}
use Rattle.std.proofs.lemmas.Result.{err_from_is_err_and}
use Rattle.code_file.specs.CodeText.{size_text}
use Rattle.code_file.specs.Spelling.{each}
use Rattle.code_file.specs.Written.{after}
use Rattle.code_file.proofs.Writing.{loop_item, loop_fails, loop_done}
use Rattle.code_file.proofs.writer.Writer.each_size.Goals as goal

pub returns-in_err-size : goal.returns-in_err-size
returns-in_err-size c =
    let p = err_from_is_err_and c.from_residual.result c.from_residual.ensures.1 in
    rw (p.1, p.2) (loop_fails (Unit {0}) (Unit {0}) size_text c.args.sizes.now c.loop-size.size-index 0 c.loop-size.self c.size.new.self c.size.new.self c.in_err-size.field-0.0 (after c.args.self.now (each size_text c.args.sizes.now)) c.loop-size-test.true c.in_err-size.ensures c.loop-size.invariant)

pub loop-size-preserved : goal.loop-size-preserved
loop-size-preserved c = loop_item size_text c.args.sizes.now c.loop-size.size-index 0 c.loop-size.self c.size.new.self (after c.args.self.now (each size_text c.args.sizes.now)) c.loop-size-test.true c.in_ok-size.ensures c.loop-size.invariant

pub returns : goal.returns
returns c = loop_done size_text c.args.sizes.now c.loop-size.size-index c.loop-size.self (after c.args.self.now (each size_text c.args.sizes.now)) c.loop-size-test.false c.loop-size.invariant
