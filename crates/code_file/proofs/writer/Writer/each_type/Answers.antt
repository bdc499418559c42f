use Rattle.std.proofs.Common.{slice_index_or}
use Rattle.std.proofs.lemmas.Result.{err_from_is_err_and}
use Rattle.code_file.specs.Spelling.{two}
use Rattle.code_file.specs.Spelling.{each}
use Rattle.code_file.specs.Written.{after}
use Rattle.code_file.proofs.Writing.{loop_item, loop_fails, loop_done}
use Rattle.code_file.proofs.writer.Writer.each_type.Goals as goal

pub returns-in_err-ty : goal.returns-in_err-ty
returns-in_err-ty c =
    let p = err_from_is_err_and c.from_residual.result c.from_residual.ensures.1 in
    rw (p.1, p.2) (loop_fails (Unit {0}) (Unit {0}) two c.args.types.now c.loop-ty.ty-index 0 c.loop-ty.self c.ty.new.self c.ty.new.self c.in_err-ty.field-0.0 (after c.args.self.now (each two c.args.types.now)) c.loop-ty-test.true c.in_err-ty.ensures c.loop-ty.invariant)

pub loop-ty-preserved : goal.loop-ty-preserved
loop-ty-preserved c = loop_item two c.args.types.now c.loop-ty.ty-index 0 c.loop-ty.self c.ty.new.self (after c.args.self.now (each two c.args.types.now)) c.loop-ty-test.true c.in_ok-ty.ensures c.loop-ty.invariant

pub returns : goal.returns
returns c = loop_done two c.args.types.now c.loop-ty.ty-index c.loop-ty.self (after c.args.self.now (each two c.args.types.now)) c.loop-ty-test.false c.loop-ty.invariant
