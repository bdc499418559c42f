use Rattle.std.proofs.Common.{arith}
use Rattle.lower_frame.proofs.Spelt.{set_spelt}
use Rattle.lower_frame.proofs.spelling.set.Goals as goal

pub returns : goal.returns
returns c = record { spelt = λ e. set_spelt c.args.constructors.now (grind (arith, e)) (λ i. let f = c.type_inv.constructors i in omega (arith, f)) }
