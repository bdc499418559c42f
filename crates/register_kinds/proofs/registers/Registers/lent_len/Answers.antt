use Rattle.std.proofs.Common.{ap, length, arith}
use Rattle.register_kinds.proofs.registers.Registers.lent_len.Goals as goal

pub returns-clause-few : goal.returns-clause-few
returns-clause-few c =
    let few = c.as_slice.ensures.few in
    let room = c.self.invariant.room in
    let long = ap (λ s. length s.kinds) c.self.view_is in
    omega arith
