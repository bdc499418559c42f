use Rattle.std.proofs.Common.{List, ℕ, Global, arith}
use Rattle.std.specs.Prelude.{vec_items}
use Rattle.std.proofs.lemmas.Result.{err_from_is_err_and}
use Rattle.fip_language.specs.Table.{Shape}
use Rattle.code_file.specs.Reading.{read, times, shape_reader, same}
use Rattle.code_file.proofs.Steps.{times_err, times_more, times_all}
use Rattle.code_file.proofs.reader.Reader.declared.Goals as goal

pub returns-in_err-constructor-clause-reads : goal.returns-in_err-constructor-clause-reads
returns-in_err-constructor-clause-reads c =
    let p = err_from_is_err_and c.from_residual.result c.from_residual.ensures.1 in
    rw (p.1, p.2) (times_err (same {X = Shape}) (vec_items {X = Shape} {Z = Global}) shape_reader c.args.count c.loop-i.i c.loop-i.self c.constructor.new.self c.constructor.new.self c.loop-i.constructors.items c.in_err-constructor.field-0.0 (read (times c.args.count shape_reader) c.args.self.now) c.loop-i-test.true c.loop-i.invariant.read_so c.in_err-constructor.ensures)

pub loop-i-preserved : goal.loop-i-preserved
loop-i-preserved c = record {
  all = omega (arith, c.in_ok-push.ensures.len, c.loop-i.invariant.all);
  read_so = times_more shape_reader c.args.count c.loop-i.i c.loop-i.self c.constructor.new.self c.loop-i.constructors.items c.push.new.self.items c.in_ok-constructor.field-0 (read (times c.args.count shape_reader) c.args.self.now) c.loop-i-test.true c.in_ok-push.ensures.items c.in_ok-constructor.ensures c.loop-i.invariant.read_so;
}

pub returns-clause-reads : goal.returns-clause-reads
returns-clause-reads c = times_all shape_reader c.args.count c.loop-i.i c.loop-i.self c.loop-i.constructors.items (read (times c.args.count shape_reader) c.args.self.now) c.loop-i-test.false c.loop-i.invariant.read_so
