use Rattle.std.proofs.Common.{List, ℕ, Global}
use Rattle.std.specs.Prelude.{vec_items}
use Rattle.std.proofs.lemmas.Result.{err_from_is_err_and}
use Rattle.code_file.specs.Reading.{read, times, four_reader, same}
use Rattle.code_file.proofs.Steps.{times_err, times_more, times_all}
use Rattle.code_file.proofs.reader.Reader.numbers.Goals as goal

pub returns-in_err-u32 : goal.returns-in_err-u32
returns-in_err-u32 c =
    let p = err_from_is_err_and c.from_residual.result c.from_residual.ensures.1 in
    rw (p.1, p.2) (times_err (same {X = ℕ}) (vec_items {X = ℕ} {Z = Global}) four_reader c.args.count c.loop-i.i c.loop-i.self c.u32.new.self c.u32.new.self c.loop-i.numbers.items c.in_err-u32.field-0.0 (read (times c.args.count four_reader) c.args.self.now) c.loop-i-test.true c.loop-i.invariant c.in_err-u32.ensures)

pub loop-i-preserved : goal.loop-i-preserved
loop-i-preserved c = times_more four_reader c.args.count c.loop-i.i c.loop-i.self c.u32.new.self c.loop-i.numbers.items c.push.new.self.items c.in_ok-u32.field-0 (read (times c.args.count four_reader) c.args.self.now) c.loop-i-test.true c.in_ok-push.ensures.items c.in_ok-u32.ensures c.loop-i.invariant

pub returns : goal.returns
returns c = times_all four_reader c.args.count c.loop-i.i c.loop-i.self c.loop-i.numbers.items (read (times c.args.count four_reader) c.args.self.now) c.loop-i-test.false c.loop-i.invariant
