use Rattle.std.proofs.Common.{List, ℕ, Global}
use Rattle.std.proofs.lemmas.Result.{err_from_is_err_and}
use Rattle.code_file.specs.Reading.{read, times, two_reader, same}
use Rattle.code_file.proofs.Steps.{times_err, times_more, times_all}
use Rattle.code_file.proofs.reader.Reader.registers.Goals as goal

pub returns-in_err-u16 : goal.returns-in_err-u16
returns-in_err-u16 c =
    let p = err_from_is_err_and c.from_residual.result c.from_residual.ensures.1 in
    rw (p.1, p.2) (times_err (same {X = ℕ}) (same {X = List (ℕ)}) two_reader c.args.count c.loop-i.i c.loop-i.self c.u16.new.self c.u16.new.self c.loop-i.registers c.in_err-u16.field-0.0 (read (times c.args.count two_reader) c.args.self.now) c.loop-i-test.true c.loop-i.invariant c.in_err-u16.ensures)

pub loop-i-preserved : goal.loop-i-preserved
loop-i-preserved c = times_more two_reader c.args.count c.loop-i.i c.loop-i.self c.u16.new.self c.loop-i.registers c.push.new.self c.in_ok-u16.field-0 (read (times c.args.count two_reader) c.args.self.now) c.loop-i-test.true c.in_ok-push.ensures.added c.in_ok-u16.ensures c.loop-i.invariant

pub returns : goal.returns
returns c = times_all two_reader c.args.count c.loop-i.i c.loop-i.self c.loop-i.registers (read (times c.args.count two_reader) c.args.self.now) c.loop-i-test.false c.loop-i.invariant
