use Rattle.std.proofs.Common.{sym, ap, ◌∙◌, ◌+◌, slice_set, get_or}
use Rattle.cell_store.proofs.Parsed.{over_at_none, writes_on}
use Rattle.cell_store.proofs.flat.write_slice.Goals as goal

pub loop-i-init : goal.loop-i-init
loop-i-init c = record { written = sym (over_at_none c.args.words.now c.args.start) }

pub loop-i-preserved : goal.loop-i-preserved
loop-i-preserved c = record {
  written = ap (λ ws. slice_set ws (c.args.start + c.loop-i.i) (get_or c.args.new.now c.loop-i.i 0)) c.loop-i.invariant.written
      ∙ writes_on c.args.words.now c.args.new.now c.args.start c.loop-i.i c.loop-i-test.true;
}
