use Rattle.std.proofs.Common.{refl, arith}
use Rattle.value_text.specs.Loaded.{types_of}
use Rattle.value_text.proofs.Whole.{counted_needs}
use Rattle.value_text.proofs.load.load_counted.Goals as goal

pub returns-then-needed-words : goal.returns-then-needed-words
returns-then-needed-words c = λ given counted.
    let n = counted_needs c.args.table.now (types_of c.args.params.now) c.args.credits.now c.args.bytes.now c.args.loader c.args.counts c.add_sizes.new.counts c.words_needed-needed.result given counted c.add_sizes.ensures c.words_needed-needed.ensures in
    (refl, c.left-words.ensures.left, c.if-needed-words.true, n.values, n.reads, n.words)

pub make_all-requires : goal.make_all-requires
make_all-requires c = let a = c.left-words.ensures.few in let b = c.left-words.ensures.left in let h = c.if-needed-words.false in omega (arith, a, b, h)

pub returns : goal.returns
returns c = λ given counted.
    let n = counted_needs c.args.table.now (types_of c.args.params.now) c.args.credits.now c.args.bytes.now c.args.loader c.args.counts c.add_sizes.new.counts c.words_needed-needed.result given counted c.add_sizes.ensures c.words_needed-needed.ensures in
    c.make_all.ensures given n.values (record { reads = n.reads; fits = (let w = n.words in let l = c.left-words.ensures.left in let h = c.if-needed-words.false in omega (arith, w, l, h)); flags = c.left-words.ensures.flags })
