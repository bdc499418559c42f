use Rattle.std.proofs.Common.{◌∙◌, sym}
use Rattle.std.proofs.lemmas.Grind.{common_steps}
use Rattle.std.proofs.lemmas.Option.{gets}
use Rattle.std.proofs.Common.{arith}
use Rattle.code_rows.proofs.Steps.{types_short}
use Rattle.code_rows.proofs.handing_rows.same_types.Goals as goal

pub returns-in-None : goal.returns-in-None
returns-in-None c =
    sym (types_short c.args.types.now c.args.others.now c.loop-ty.ty-index c.loop-ty.place c.loop-ty-test.true (grind (arith, common_steps, gets)))
    ∙ c.loop-ty.invariant.rest
