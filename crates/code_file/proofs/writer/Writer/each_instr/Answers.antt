use Rattle.std.proofs.lemmas.Result.{err_from_is_err_and}
use Rattle.code_file.specs.CodeText.{instr_text}
use Rattle.code_file.specs.Spelling.{each}
use Rattle.code_file.specs.Written.{after}
use Rattle.code_file.proofs.Writing.{loop_item_is, loop_fails_is, loop_done}
use Rattle.code_file.proofs.writer.Writer.each_instr.Goals as goal

pub returns-in_err-instr : goal.returns-in_err-instr
returns-in_err-instr c =
    let p = err_from_is_err_and c.from_residual.result c.from_residual.ensures.1 in
    rw (p.1, p.2) (loop_fails_is (Unit {0}) (Unit {0}) instr_text c.args.instrs.now c.loop-instr.instr-index c.instr-item.result c.loop-instr.self c.instr.new.self c.instr.new.self c.in_err-instr.field-0.0 (after c.args.self.now (each instr_text c.args.instrs.now)) c.loop-instr-test.true c.instr-item.is c.in_err-instr.ensures c.loop-instr.invariant)

pub loop-instr-preserved : goal.loop-instr-preserved
loop-instr-preserved c = loop_item_is instr_text c.args.instrs.now c.loop-instr.instr-index c.instr-item.result c.loop-instr.self c.instr.new.self (after c.args.self.now (each instr_text c.args.instrs.now)) c.loop-instr-test.true c.instr-item.is c.in_ok-instr.ensures c.loop-instr.invariant

pub returns : goal.returns
returns c = loop_done instr_text c.args.instrs.now c.loop-instr.instr-index c.loop-instr.self (after c.args.self.now (each instr_text c.args.instrs.now)) c.loop-instr-test.false c.loop-instr.invariant
