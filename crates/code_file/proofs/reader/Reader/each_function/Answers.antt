use Rattle.std.proofs.Common.{List, ℕ, Global, map}
use Rattle.std.specs.Prelude.{Vec}
use Rattle.std.proofs.lemmas.Result.{err_from_is_err_and}
use Rattle.cell_code.specs.declared.code.Function.{Function}
use Rattle.cell_code.specs.Plain.{plain_function}
use Rattle.code_file.specs.Reading.{read, times, function_reader}
use Rattle.code_file.proofs.Steps.{times_err, times_more_seen, times_all}
use Rattle.code_file.proofs.reader.Reader.each_function.Goals as goal

pub returns-in_err-function : goal.returns-in_err-function
returns-in_err-function c =
    let p = err_from_is_err_and c.from_residual.result c.from_residual.ensures.1 in
    rw (p.1, p.2) (times_err plain_function (λ (v : Vec (Function) Global). map plain_function v.items) (function_reader c.args.version) c.args.count c.loop-i.i c.loop-i.self c.function.new.self c.function.new.self (map plain_function c.loop-i.functions.items) c.in_err-function.field-0.0 (read (times c.args.count (function_reader c.args.version)) c.args.self.now) c.loop-i-test.true c.loop-i.invariant c.in_err-function.ensures)

pub loop-i-preserved : goal.loop-i-preserved
loop-i-preserved c = times_more_seen plain_function (function_reader c.args.version) c.args.count c.loop-i.i c.loop-i.self c.function.new.self c.loop-i.functions.items c.push.new.self.items c.in_ok-function.field-0 (read (times c.args.count (function_reader c.args.version)) c.args.self.now) c.loop-i-test.true c.in_ok-push.ensures.items c.in_ok-function.ensures c.loop-i.invariant

pub returns : goal.returns
returns c = times_all (function_reader c.args.version) c.args.count c.loop-i.i c.loop-i.self (map plain_function c.loop-i.functions.items) (read (times c.args.count (function_reader c.args.version)) c.args.self.now) c.loop-i-test.false c.loop-i.invariant
