use Rattle.std.proofs.Common.{rules, sym, ◌∙◌}
use Rattle.register_kinds.proofs.Short.{received_short}
use Rattle.register_kinds.proofs.registers.Registers.receive_all.Goals as goal

pub returns-in-None-clause-kinds : goal.returns-in-None-clause-kinds
returns-in-None-clause-kinds c =
    sym (received_short c.args.table.now c.loop-destination.self.kinds c.args.destinations.now c.args.types.now
    c.loop-destination.destination-index c.loop-destination.place (search rules) (search rules))
    ∙ c.loop-destination.invariant.rest
