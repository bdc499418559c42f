use Rattle.std.proofs.Common.{List, ℕ, Global, map}
use Rattle.std.specs.Prelude.{Vec}
use Rattle.std.proofs.lemmas.Result.{err_from_is_err_and}
use Rattle.cell_code.specs.declared.kind.Label.{Label}
use Rattle.cell_code.specs.Plain.{plain_label}
use Rattle.code_file.specs.Reading.{read, times, label_reader}
use Rattle.code_file.proofs.Steps.{times_err, times_more_seen, times_all}
use Rattle.code_file.proofs.reader.Reader.each_label.Goals as goal

pub returns-in_err-label : goal.returns-in_err-label
returns-in_err-label c =
    let p = err_from_is_err_and c.from_residual.result c.from_residual.ensures.1 in
    rw (p.1, p.2) (times_err plain_label (λ (v : Vec (Label) Global). map plain_label v.items) (label_reader c.args.registers) c.args.count c.loop-i.i c.loop-i.self c.label.new.self c.label.new.self (map plain_label c.loop-i.labels.items) c.in_err-label.field-0.0 (read (times c.args.count (label_reader c.args.registers)) c.args.self.now) c.loop-i-test.true c.loop-i.invariant c.in_err-label.ensures)

pub loop-i-preserved : goal.loop-i-preserved
loop-i-preserved c = times_more_seen plain_label (label_reader c.args.registers) c.args.count c.loop-i.i c.loop-i.self c.label.new.self c.loop-i.labels.items c.push.new.self.items c.in_ok-label.field-0 (read (times c.args.count (label_reader c.args.registers)) c.args.self.now) c.loop-i-test.true c.in_ok-push.ensures.items c.in_ok-label.ensures c.loop-i.invariant

pub returns : goal.returns
returns c = times_all (label_reader c.args.registers) c.args.count c.loop-i.i c.loop-i.self (map plain_label c.loop-i.labels.items) (read (times c.args.count (label_reader c.args.registers)) c.args.self.now) c.loop-i-test.false c.loop-i.invariant
