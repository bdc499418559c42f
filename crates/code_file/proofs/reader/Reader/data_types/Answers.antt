use Rattle.std.proofs.Common.{List, ℕ, Global}
use Rattle.std.proofs.lemmas.Result.{err_from_is_err_and}
use Rattle.fip_language.specs.Table.{Shape}
use Rattle.code_file.specs.Reading.{read, times, type_reader, same}
use Rattle.code_file.proofs.Steps.{times_err, times_more, times_all}
use Rattle.code_file.proofs.reader.Reader.data_types.Goals as goal

pub returns-in_err-data_type : goal.returns-in_err-data_type
returns-in_err-data_type c =
    let p = err_from_is_err_and c.from_residual.result c.from_residual.ensures.1 in
    rw (p.1, p.2) (times_err (same {X = List Shape}) (same {X = List (List Shape)}) type_reader c.args.count c.loop-i.i c.loop-i.self c.data_type.new.self c.data_type.new.self c.loop-i.types c.in_err-data_type.field-0.0 (read (times c.args.count type_reader) c.args.self.now) c.loop-i-test.true c.loop-i.invariant c.in_err-data_type.ensures)

pub loop-i-preserved : goal.loop-i-preserved
loop-i-preserved c = times_more type_reader c.args.count c.loop-i.i c.loop-i.self c.data_type.new.self c.loop-i.types c.push.new.self c.in_ok-data_type.field-0 (read (times c.args.count type_reader) c.args.self.now) c.loop-i-test.true c.in_ok-push.ensures.added c.in_ok-data_type.ensures c.loop-i.invariant

pub returns : goal.returns
returns c = times_all type_reader c.args.count c.loop-i.i c.loop-i.self c.loop-i.types (read (times c.args.count type_reader) c.args.self.now) c.loop-i-test.false c.loop-i.invariant
