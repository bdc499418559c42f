use Rattle.std.proofs.Common.{◌≡◌, ◌∙◌, ◌+◌, suc, ap, sym, arith}
use Rattle.static_params.specs.FlatProgram as P
use Rattle.static_params.proofs.table.Numbers.type_number.Goals as goal

pub returns-in-Some : goal.returns-in-Some
returns-in-Some c = λ h.
    let l = c.in-Some.ensures.within in
    c.from_one.ensures (omega (arith, h, l)) ∙ (let e : c.in-Some.number + 1 ≡ suc c.in-Some.number = omega arith in e) ∙ ap P.from_one (sym c.in-Some.is ∙ c.number_of.ensures.number)

pub returns-in-None : goal.returns-in-None
returns-in-None c = λ h. ap P.from_one (sym c.in-None.is ∙ c.number_of.ensures.number)
