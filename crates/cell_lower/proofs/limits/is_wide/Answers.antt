use Rattle.std.proofs.Common.{arith}
use Rattle.cell_lower.proofs.ExceededLimits.{wide_past}
use Rattle.cell_lower.proofs.limits.is_wide.Goals as goal

-- a type past the end of the table
pub returns-then-ty-len : goal.returns-then-ty-len
returns-then-ty-len c = wide_past c.args.types.now c.args.ty (omega (arith, c.if-ty-len.true, c.len.ensures.count))
