use Rattle.std.proofs.Common.{ℕ, ◌+◌, ◌∙◌, arith, get_or}
use Rattle.std.proofs.lemmas.List.{length-set}
use Rattle.machine_frames.proofs.Laid.{read_more, all_read}
use Rattle.machine_step.proofs.rows.keep_results.Goals as goal

pub loop-i-preserved : goal.loop-i-preserved
loop-i-preserved c =
    let f : ℕ → ℕ = λ j. get_or c.args.words.now (c.args.base + get_or c.args.results.now j 0) 0 in
    record {
      spare = c.loop-i.invariant.spare;
      freed = c.loop-i.invariant.freed;
      long = length-set c.loop-i.beside.results c.loop-i.i (f c.loop-i.i) ∙ c.loop-i.invariant.long;
      kept = read_more c.loop-i.beside.results f c.loop-i.i (omega arith) c.loop-i.invariant.kept;
    }

pub returns-clause-kept : goal.returns-clause-kept
returns-clause-kept c = all_read c.args.base c.args.words.now c.args.results.now c.loop-i.beside.results (omega arith) (λ j l. c.loop-i.invariant.kept j (omega (arith, l)))
