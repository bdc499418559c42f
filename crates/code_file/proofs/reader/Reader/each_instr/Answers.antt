use Rattle.std.proofs.Common.{List, ℕ, Global}
use Rattle.std.specs.Prelude.{vec_items}
use Rattle.std.proofs.lemmas.Result.{err_from_is_err_and}
use Rattle.cell_code.specs.declared.code.Instr.{Instr}
use Rattle.code_file.specs.Reading.{read, times, instr_reader, same}
use Rattle.code_file.proofs.Steps.{times_err, times_more, times_all}
use Rattle.code_file.proofs.reader.Reader.each_instr.Goals as goal

pub returns-in_err-instr : goal.returns-in_err-instr
returns-in_err-instr c =
    let p = err_from_is_err_and c.from_residual.result c.from_residual.ensures.1 in
    rw (p.1, p.2) (times_err (same {X = Instr}) (vec_items {X = Instr} {Z = Global}) instr_reader c.args.count c.loop-i.i c.loop-i.self c.instr.new.self c.instr.new.self c.loop-i.instrs.items c.in_err-instr.field-0.0 (read (times c.args.count instr_reader) c.args.self.now) c.loop-i-test.true c.loop-i.invariant c.in_err-instr.ensures)

pub loop-i-preserved : goal.loop-i-preserved
loop-i-preserved c = times_more instr_reader c.args.count c.loop-i.i c.loop-i.self c.instr.new.self c.loop-i.instrs.items c.push.new.self.items c.in_ok-instr.field-0 (read (times c.args.count instr_reader) c.args.self.now) c.loop-i-test.true c.in_ok-push.ensures.items c.in_ok-instr.ensures c.loop-i.invariant

pub returns : goal.returns
returns c = times_all instr_reader c.args.count c.loop-i.i c.loop-i.self c.loop-i.instrs.items (read (times c.args.count instr_reader) c.args.self.now) c.loop-i-test.false c.loop-i.invariant
