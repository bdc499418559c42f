use Rattle.std.proofs.Common.{sym, ◌∙◌}
use Rattle.data_types.proofs.Looks.{bit_some, bit_none}
use Rattle.data_types.proofs.bits.bit.Goals as goal

pub returns-in-Some : goal.returns-in-Some
returns-in-Some c = bit_some c.args.bits.now c.args.k c.in-Some.b (sym c.at.ensures ∙ c.in-Some.is)

pub returns-in-None : goal.returns-in-None
returns-in-None c = bit_none c.args.bits.now c.args.k (sym c.at.ensures ∙ c.in-None.is)
