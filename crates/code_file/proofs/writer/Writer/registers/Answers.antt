use Rattle.std.proofs.Common.{slice_index_or}
use Rattle.std.proofs.lemmas.Result.{err_from_is_err_and}
use Rattle.code_file.specs.Spelling.{two}
use Rattle.code_file.specs.Spelling.{each}
use Rattle.code_file.specs.Written.{after}
use Rattle.code_file.proofs.Writing.{loop_item, loop_fails, loop_done}
use Rattle.code_file.proofs.writer.Writer.registers.Goals as goal

pub returns-in_err-u16 : goal.returns-in_err-u16
returns-in_err-u16 c =
    let p = err_from_is_err_and c.from_residual.result c.from_residual.ensures.1 in
    rw (p.1, p.2) (loop_fails (Unit {0}) (Unit {0}) two c.args.registers.now c.loop-register.register-index 0 c.loop-register.self c.u16.new.self c.u16.new.self c.in_err-u16.field-0.0 (after c.args.self.now (each two c.args.registers.now)) c.loop-register-test.true c.in_err-u16.ensures c.loop-register.invariant)

pub loop-register-preserved : goal.loop-register-preserved
loop-register-preserved c = loop_item two c.args.registers.now c.loop-register.register-index 0 c.loop-register.self c.u16.new.self (after c.args.self.now (each two c.args.registers.now)) c.loop-register-test.true c.in_ok-u16.ensures c.loop-register.invariant

pub returns : goal.returns
returns c = loop_done two c.args.registers.now c.loop-register.register-index c.loop-register.self (after c.args.self.now (each two c.args.registers.now)) c.loop-register-test.false c.loop-register.invariant
