use Rattle.std.proofs.Common.{◌≡◌, ◌+◌, arith, map, Some, slice_get, get_or}
use Rattle.std.proofs.lemmas.Option.{slice_get-get_or}
use Rattle.cell_code.specs.declared.code.Instr.{Instr}
use Rattle.lowering_relation.specs.Written.{settled, place_of}
use Rattle.lower_frame.proofs.Frames.{mapped_on}
use Rattle.lower_frame.proofs.Spelt.{instrs_set}
use Rattle.lower_frame.proofs.buffer.settle_all.Goals as goal

pub loop-instr-preserved : goal.loop-instr-preserved
loop-instr-preserved c =
    let instr : Instr = get_or c.loop-instr.instr-items c.loop-instr.instr-index c.instr-item.result in
    let there : slice_get c.loop-instr.instr-items c.loop-instr.instr-index ≡ Some instr = slice_get-get_or c.loop-instr.instr-items c.loop-instr.instr-index c.instr-item.result (omega (arith, c.loop-instr-test.true, c.loop-instr.auto.instr-items)) in
    record {
      rest = mapped_on (settled (place_of c.args.places.now)) c.loop-instr.instr-items (map (settled (place_of c.args.places.now)) c.deref_mut-instr-items.result.now) c.loop-instr.instr-index (c.loop-instr.instr-index + 1) instr c.settle.new.instr there c.settle.ensures.settled (omega arith) c.loop-instr.invariant.rest;
      spelt = λ h. instrs_set c.loop-instr.instr-items c.loop-instr.instr-index instr c.settle.new.instr there c.settle.ensures.spelt (c.loop-instr.invariant.spelt h);
    }
