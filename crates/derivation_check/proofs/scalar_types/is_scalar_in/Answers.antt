use Rattle.std.proofs.Common.{sym, arith}
use Rattle.derivation_check.proofs.Flags.{past_scalar}
use Rattle.derivation_check.proofs.scalar_types.is_scalar_in.Goals as goal

pub returns-else-ty-len : goal.returns-else-ty-len
returns-else-ty-len c = record { scalar = sym (past_scalar c.args.program.now.types c.args.ty (let e = c.len.ensures.count in let h = c.if-ty-len.false in omega arith)) }
