use Rattle.std.proofs.lemmas.Result.{err_from_is_err_and}
use Rattle.code_file.specs.Written.{label_in}
use Rattle.code_file.specs.Spelling.{each}
use Rattle.code_file.specs.Written.{after}
use Rattle.code_file.proofs.Writing.{loop_item_is, loop_fails_is, loop_done}
use Rattle.code_file.proofs.writer.Writer.each_label.Goals as goal

pub returns-in_err-label : goal.returns-in_err-label
returns-in_err-label c =
    let p = err_from_is_err_and c.from_residual.result c.from_residual.ensures.1 in
    rw (p.1, p.2) (loop_fails_is (Unit {0}) (Unit {0}) (label_in c.args.registers) c.args.labels.now c.loop-label.label-index c.label-item.result c.loop-label.self c.label.new.self c.label.new.self c.in_err-label.field-0.0 (after c.args.self.now (each (label_in c.args.registers) c.args.labels.now)) c.loop-label-test.true c.label-item.is c.in_err-label.ensures c.loop-label.invariant)

pub loop-label-preserved : goal.loop-label-preserved
loop-label-preserved c = loop_item_is (label_in c.args.registers) c.args.labels.now c.loop-label.label-index c.label-item.result c.loop-label.self c.label.new.self (after c.args.self.now (each (label_in c.args.registers) c.args.labels.now)) c.loop-label-test.true c.label-item.is c.in_ok-label.ensures c.loop-label.invariant

pub returns : goal.returns
returns c = loop_done (label_in c.args.registers) c.args.labels.now c.loop-label.label-index c.loop-label.self (after c.args.self.now (each (label_in c.args.registers) c.args.labels.now)) c.loop-label-test.false c.loop-label.invariant
