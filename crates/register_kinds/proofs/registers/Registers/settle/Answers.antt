use Rattle.register_kinds.proofs.registers.Registers.settle.Goals as goal

pub set_held-requires : goal.set_held-requires
set_held-requires c = record { known = c.mended.ensures.is c.args.self.now.kinds (c.requires.known c.if-plain.true) }
