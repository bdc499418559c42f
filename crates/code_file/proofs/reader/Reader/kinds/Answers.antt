use Rattle.std.proofs.Common.{List, ℕ, Global}
use Rattle.std.specs.Prelude.{vec_items}
use Rattle.std.proofs.lemmas.Result.{err_from_is_err_and}
use Rattle.cell_code.specs.declared.kind.Kind.{Kind}
use Rattle.code_file.specs.Reading.{read, times, kind_reader, same}
use Rattle.code_file.proofs.Steps.{times_err, times_more, times_all}
use Rattle.code_file.proofs.reader.Reader.kinds.Goals as goal

pub returns-in_err-kind : goal.returns-in_err-kind
returns-in_err-kind c =
    let p = err_from_is_err_and c.from_residual.result c.from_residual.ensures.1 in
    rw (p.1, p.2) (times_err (same {X = Kind}) (vec_items {X = Kind} {Z = Global}) kind_reader c.args.registers c.loop-i.i c.loop-i.self c.kind.new.self c.kind.new.self c.loop-i.kinds.items c.in_err-kind.field-0.0 (read (times c.args.registers kind_reader) c.args.self.now) c.loop-i-test.true c.loop-i.invariant c.in_err-kind.ensures)

pub loop-i-preserved : goal.loop-i-preserved
loop-i-preserved c = times_more kind_reader c.args.registers c.loop-i.i c.loop-i.self c.kind.new.self c.loop-i.kinds.items c.push.new.self.items c.in_ok-kind.field-0 (read (times c.args.registers kind_reader) c.args.self.now) c.loop-i-test.true c.in_ok-push.ensures.items c.in_ok-kind.ensures c.loop-i.invariant

pub returns : goal.returns
returns c = times_all kind_reader c.args.registers c.loop-i.i c.loop-i.self c.loop-i.kinds.items (read (times c.args.registers kind_reader) c.args.self.now) c.loop-i-test.false c.loop-i.invariant
