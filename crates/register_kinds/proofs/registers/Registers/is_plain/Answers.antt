use Rattle.register_kinds.proofs.Sorted.{part_listed}
use Rattle.register_kinds.proofs.registers.Registers.is_plain.Goals as goal

pub returns-clause-free : goal.returns-clause-free
returns-clause-free c = λ e q s.
    c.none_owned.ensures.none e q (part_listed c.args.parts.now c.args.types.now q s)
