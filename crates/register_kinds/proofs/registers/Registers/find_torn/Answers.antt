use Rattle.std.proofs.Common.{ap, arith, length}
use Rattle.register_kinds.proofs.Torn.{whole_found}
use Rattle.register_kinds.proofs.registers.Registers.find_torn.Goals as goal

pub returns : goal.returns
returns c = record {
  whole = whole_found c.args.self.now.kinds c.loop-register-2.found c.args.self.now.lent c.loop-register-2.register
      (let g = ap (λ s. length s.kinds) c.self.view_is in omega arith) c.loop-register-2.invariant.listed c.loop-register-2.invariant.closed c.requires.held;
}
