use Rattle.std.proofs.Common.{rules, sym, ◌∙◌}
use Rattle.register_kinds.proofs.Short.{part_short}
use Rattle.register_kinds.proofs.take.piece_of.Goals as goal

pub returns-in-None : goal.returns-in-None
returns-in-None c = record {
  is = sym (part_short c.loop-part.field c.args.parts.now c.args.types.now c.loop-part.part-index c.loop-part.field
      c.args.register (search rules) (search rules)) ∙ c.loop-part.invariant.rest;
}
