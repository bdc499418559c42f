use Rattle.std.proofs.Common.{slice_index_or}
use Rattle.std.proofs.lemmas.Result.{err_from_is_err_and}
use Rattle.code_file.specs.CodeText.{param_text}
use Rattle.code_file.specs.Spelling.{each}
use Rattle.code_file.specs.Written.{after}
use Rattle.code_file.proofs.Writing.{loop_item, loop_fails, loop_done}
use Rattle.code_file.proofs.writer.Writer.each_param.Goals as goal

pub returns-in_err-param : goal.returns-in_err-param
returns-in_err-param c =
    let p = err_from_is_err_and c.from_residual.result c.from_residual.ensures.1 in
    rw (p.1, p.2) (loop_fails (Unit {0}) (Unit {0}) param_text c.args.params.now c.loop-param.param-index _ c.loop-param.self c.param.new.self c.param.new.self c.in_err-param.field-0.0 (after c.args.self.now (each param_text c.args.params.now)) c.loop-param-test.true c.in_err-param.ensures c.loop-param.invariant)

pub loop-param-preserved : goal.loop-param-preserved
loop-param-preserved c = loop_item param_text c.args.params.now c.loop-param.param-index _ c.loop-param.self c.param.new.self (after c.args.self.now (each param_text c.args.params.now)) c.loop-param-test.true c.in_ok-param.ensures c.loop-param.invariant

pub returns : goal.returns
returns c = loop_done param_text c.args.params.now c.loop-param.param-index c.loop-param.self (after c.args.self.now (each param_text c.args.params.now)) c.loop-param-test.false c.loop-param.invariant
