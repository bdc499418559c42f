use Rattle.std.proofs.Common.{rules, sym, ◌∙◌}
use Rattle.register_kinds.proofs.Short.{lend_short}
use Rattle.register_kinds.proofs.registers.Registers.lend_all.Goals as goal

pub returns-in-None : goal.returns-in-None
returns-in-None c = record {
  is =
      sym (lend_short c.args.table.now c.args.in_tail c.args.self.now.kinds c.args.params.now c.args.registers.now c.loop-param.param-index c.loop-param.place (search rules) (search rules)) ∙ c.loop-param.invariant.rest;
}
