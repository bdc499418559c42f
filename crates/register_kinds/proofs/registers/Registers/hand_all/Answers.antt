use Rattle.std.proofs.Common.{rules, sym, ◌∙◌}
use Rattle.register_kinds.proofs.Short.{hand_short}
use Rattle.register_kinds.proofs.registers.Registers.hand_all.Goals as goal

pub returns-in-None-clause-is : goal.returns-in-None-clause-is
returns-in-None-clause-is c =
    sym (hand_short c.loop-size.self.kinds c.args.sizes.now c.args.registers.now c.loop-size.size-index c.loop-size.place (search rules) (search rules)) ∙ c.loop-size.invariant.rest
