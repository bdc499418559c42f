use Rattle.std.proofs.Common.{◌∙◌, ap, sym, arith}
use Rattle.static_params.specs.FlatProgram as P
use Rattle.static_params.proofs.table.Numbers.instance_number.Goals as goal

pub returns-in-Some : goal.returns-in-Some
returns-in-Some c = λ h.
    let l = c.in-Some.ensures.within in
    c.narrow.ensures (omega (arith, h, l)) ∙ ap P.or_zero (sym c.in-Some.is ∙ c.number_of.ensures.number)

pub returns-in-None : goal.returns-in-None
returns-in-None c = λ h. ap P.or_zero (sym c.in-None.is ∙ c.number_of.ensures.number)
