use Rattle.std.proofs.Common.{arith}
use Rattle.lower_frame.proofs.Spelt.{list_spelt}
use Rattle.lower_frame.proofs.spelling.list.Goals as goal

pub returns : goal.returns
returns c = record { spelt = λ e. list_spelt c.args.registers.now (grind (arith, e)) (λ i. let f = c.type_inv.registers i in omega (arith, f)) }
