use Rattle.std.proofs.Common.{◌≡◌, drop}
use Rattle.kind_domain.specs.code_rules.Taking.{part, part_from}
use Rattle.register_kinds.proofs.take.piece_of.Given as goal

abbrev pub invariant-loop-part : goal.invariant-loop-part
invariant-loop-part l = record {
  step : l.field ≡ l.part-index;
  rest : part_from l.field (drop l.part-index l.parts) (drop l.field l.types) l.register
      ≡ part l.parts l.types l.register;
}
