use Rattle.std.proofs.Common.{◌≡◌, drop, take, map, ◌++◌}
use Rattle.lowering_relation.specs.Written.{settled, place_of}
use Rattle.lower_frame.specs.Spelled.{AreInstrsSpelt}
use Rattle.lower_frame.proofs.buffer.settle_all.Given as goal

abbrev pub invariant-loop-instr : goal.invariant-loop-instr
invariant-loop-instr l = record {
  rest : take l.instr-index l.instr-items ++ map (settled (place_of l.places)) (drop l.instr-index l.instr-items) ≡ map (settled (place_of l.places)) l.initial.instr-items;
  spelt : AreInstrsSpelt l.initial.instr-items → AreInstrsSpelt l.instr-items;
}
