use Rattle.std.proofs.Common.{◌+◌, ◌-◌, ◌*◌, ◌^◌, ◌<◌, ap, sym, subst, ◌∙◌, arith}
use Rattle.std.proofs.lemmas.Result.{err_from_is_err_and}
use Rattle.run_loading.specs.TraceReading.{read_number}
use Rattle.trace_files.proofs.Steps.{number_more, number_err, number_all, number_below, number_fits}
use Rattle.trace_files.proofs.reader.Reader.number.Goals as goal

pub overflow_mul-number : goal.overflow_mul-number
overflow_mul-number c = let fits = number_fits c.loop-i.number 0 c.loop-i.i c.args.width c.loop-i.invariant.below c.loop-i-test.true c.requires.few (omega arith) in omega (arith, fits)

pub returns-in_err-byte-clause-reads : goal.returns-in_err-byte-clause-reads
returns-in_err-byte-clause-reads c =
    let p = err_from_is_err_and c.from_residual.result c.from_residual.ensures.1 in
    rw (p.1, p.2) (number_err c.args.width c.loop-i.i c.loop-i.number c.loop-i.self c.byte.new.self c.byte.new.self c.in_err-byte.field-0.0 (read_number c.args.width 0 c.args.self.now.at c.args.self.now.rest) c.loop-i-test.true c.loop-i.invariant.reads c.in_err-byte.ensures.reads)

pub overflow_add-number : goal.overflow_add-number
overflow_add-number c =
    let fits = number_fits c.loop-i.number c.in_ok-byte.field-0 c.loop-i.i c.args.width c.loop-i.invariant.below c.loop-i-test.true c.requires.few c.in_ok-byte.ensures.small in
    let same = c.from.ensures in
    omega (arith, fits, same)

pub loop-i-preserved : goal.loop-i-preserved
loop-i-preserved c =
    let same = c.from.ensures in record {
      reads = ap (λ b. read_number (c.args.width - (c.loop-i.i + 1)) (c.loop-i.number * 256 + b) c.byte.new.self.at c.byte.new.self.rest) same
          ∙ number_more c.args.width c.loop-i.i c.loop-i.number c.in_ok-byte.field-0 c.loop-i.self c.byte.new.self (read_number c.args.width 0 c.args.self.now.at c.args.self.now.rest) c.loop-i-test.true c.in_ok-byte.ensures.reads c.loop-i.invariant.reads;
      below = subst (λ b. c.loop-i.number * 256 + b < 256 ^ (c.loop-i.i + 1)) (sym same) (number_below c.loop-i.number c.in_ok-byte.field-0 c.loop-i.i c.loop-i.invariant.below c.in_ok-byte.ensures.small);
    }

pub returns-clause-reads : goal.returns-clause-reads
returns-clause-reads c = number_all c.args.width c.loop-i.i c.loop-i.number c.loop-i.self (read_number c.args.width 0 c.args.self.now.at c.args.self.now.rest) c.loop-i-test.false c.loop-i.invariant.reads
