use Rattle.std.proofs.lemmas.Result.{err_from_is_err_and}
use Rattle.code_file.specs.CodeText.{shape_text}
use Rattle.code_file.specs.Spelling.{each}
use Rattle.code_file.specs.Written.{after}
use Rattle.code_file.proofs.Writing.{loop_item_is, loop_fails_is, loop_done}
use Rattle.code_file.proofs.writer.Writer.constructors.Goals as goal

pub returns-in_err-constructor : goal.returns-in_err-constructor
returns-in_err-constructor c =
    let p = err_from_is_err_and c.from_residual.result c.from_residual.ensures.1 in
    rw (p.1, p.2) (loop_fails_is (Unit {0}) (Unit {0}) shape_text c.args.constructors.now c.loop-constructor.constructor-index c.constructor-item.result c.loop-constructor.self c.constructor.new.self c.constructor.new.self c.in_err-constructor.field-0.0 (after c.args.self.now (each shape_text c.args.constructors.now)) c.loop-constructor-test.true c.constructor-item.is c.in_err-constructor.ensures c.loop-constructor.invariant)

pub loop-constructor-preserved : goal.loop-constructor-preserved
loop-constructor-preserved c = loop_item_is shape_text c.args.constructors.now c.loop-constructor.constructor-index c.constructor-item.result c.loop-constructor.self c.constructor.new.self (after c.args.self.now (each shape_text c.args.constructors.now)) c.loop-constructor-test.true c.constructor-item.is c.in_ok-constructor.ensures c.loop-constructor.invariant

pub returns : goal.returns
returns c = loop_done shape_text c.args.constructors.now c.loop-constructor.constructor-index c.loop-constructor.self (after c.args.self.now (each shape_text c.args.constructors.now)) c.loop-constructor-test.false c.loop-constructor.invariant
