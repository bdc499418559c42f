use Rattle.std.proofs.Common.{rules, sym, ◌∙◌}
use Rattle.register_kinds.proofs.Short.{pass_short}
use Rattle.register_kinds.proofs.registers.Registers.pass_all.Goals as goal

pub returns-in-None-clause-is : goal.returns-in-None-clause-is
returns-in-None-clause-is c =
    sym (pass_short c.args.table.now c.loop-param.self.kinds c.args.params.now c.args.registers.now c.loop-param.param-index c.loop-param.place (search rules) (search rules)) ∙ c.loop-param.invariant.rest
