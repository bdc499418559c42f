use Rattle.std.proofs.Common.{rules, sym, ◌∙◌}
use Rattle.register_kinds.proofs.Short.{give_short}
use Rattle.register_kinds.proofs.registers.Registers.give_all.Goals as goal

pub returns-in-None-clause-is : goal.returns-in-None-clause-is
returns-in-None-clause-is c =
    sym (give_short c.loop-source.self.kinds c.args.sources.now c.args.types.now c.loop-source.source-index c.loop-source.place (search rules) (search rules)) ∙ c.loop-source.invariant.rest
