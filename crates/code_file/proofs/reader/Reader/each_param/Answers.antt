use Rattle.std.proofs.Common.{List, ℕ, Global}
use Rattle.std.specs.Prelude.{vec_items}
use Rattle.std.proofs.lemmas.Result.{err_from_is_err_and}
use Rattle.fip_base.specs.declared.plain.Param.{Param}
use Rattle.code_file.specs.Reading.{read, times, param_reader, same}
use Rattle.code_file.proofs.Steps.{times_err, times_more, times_all}
use Rattle.code_file.proofs.reader.Reader.each_param.Goals as goal

pub returns-in_err-param : goal.returns-in_err-param
returns-in_err-param c =
    let p = err_from_is_err_and c.from_residual.result c.from_residual.ensures.1 in
    rw (p.1, p.2) (times_err (same {X = Param}) (vec_items {X = Param} {Z = Global}) param_reader c.args.count c.loop-i.i c.loop-i.self c.param.new.self c.param.new.self c.loop-i.params.items c.in_err-param.field-0.0 (read (times c.args.count param_reader) c.args.self.now) c.loop-i-test.true c.loop-i.invariant c.in_err-param.ensures)

pub loop-i-preserved : goal.loop-i-preserved
loop-i-preserved c = times_more param_reader c.args.count c.loop-i.i c.loop-i.self c.param.new.self c.loop-i.params.items c.push.new.self.items c.in_ok-param.field-0 (read (times c.args.count param_reader) c.args.self.now) c.loop-i-test.true c.in_ok-push.ensures.items c.in_ok-param.ensures c.loop-i.invariant

pub returns : goal.returns
returns c = times_all param_reader c.args.count c.loop-i.i c.loop-i.self c.loop-i.params.items (read (times c.args.count param_reader) c.args.self.now) c.loop-i-test.false c.loop-i.invariant
