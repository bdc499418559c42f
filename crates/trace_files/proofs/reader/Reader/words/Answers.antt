use Rattle.std.proofs.Common.{ℕ, Global}
use Rattle.std.specs.Prelude.{vec_items}
use Rattle.std.proofs.lemmas.Result.{err_from_is_err_and}
use Rattle.run_loading.specs.TraceReading.{read_words}
use Rattle.trace_files.proofs.Steps.{words_first, words_more, words_err, words_all}
use Rattle.trace_files.proofs.reader.Reader.words.Goals as goal

pub loop-i-init : goal.loop-i-init
loop-i-init c = words_first c.args.count c.args.self.now.at c.args.self.now.rest c.new-words.result.items c.new-words.ensures.items

pub returns-in_err-u64 : goal.returns-in_err-u64
returns-in_err-u64 c =
    let p = err_from_is_err_and c.from_residual.result c.from_residual.ensures.1 in
    record { reads = rw (p.1, p.2) (words_err (vec_items {X = ℕ} {Z = Global}) c.args.count c.loop-i.i c.loop-i.self c.u64.new.self c.u64.new.self c.loop-i.words.items c.in_err-u64.field-0.0 (read_words c.args.count c.args.self.now.at c.args.self.now.rest) c.loop-i-test.true c.loop-i.invariant c.in_err-u64.ensures.reads) }

pub loop-i-preserved : goal.loop-i-preserved
loop-i-preserved c = words_more c.args.count c.loop-i.i c.in_ok-u64.field-0 c.loop-i.self c.u64.new.self c.loop-i.words.items c.push.new.self.items (read_words c.args.count c.args.self.now.at c.args.self.now.rest) c.loop-i-test.true c.in_ok-push.ensures.items c.in_ok-u64.ensures.reads c.loop-i.invariant

pub returns : goal.returns
returns c = record { reads = words_all c.args.count c.loop-i.i c.loop-i.self c.loop-i.words.items (read_words c.args.count c.args.self.now.at c.args.self.now.rest) c.loop-i-test.false c.loop-i.invariant }
