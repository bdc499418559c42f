use Rattle.std.proofs.Common.{◌≡◌, ◌∙◌, refl, sym, ap, subst}
use Rattle.cell_code.specs.Naming.{IsNamed}
use Rattle.cell_code.specs.declared.code.Code.{Code}
use Rattle.code_verify.specs.Checked.{Checked}
use Rattle.fip_host.specs.Hosting.{Seen}
use Rattle.fip_host.proofs.calls.codes.fip_find.Goals as goal

pub returns-in-Some-clause-found : goal.returns-in-Some-clause-found
returns-in-Some-clause-found c _ =
    let same : c.code.result.now ≡ c.args.machine.now.held.code.code = c.code.ensures.same ∙ ap (λ (v : Checked). v.code) (c.verified.ensures.code ∙ ap (λ (m : Seen). m.code) c.machine.ensures.value) in
    subst (λ (k : Code). IsNamed k.functions.items c.args.name.now c.in-Some.found) same c.in-Some.ensures.found

pub returns-in-Some-clause-first : goal.returns-in-Some-clause-first
returns-in-Some-clause-first c _ g less is =
    let same : c.code.result.now ≡ c.args.machine.now.held.code.code = c.code.ensures.same ∙ ap (λ (v : Checked). v.code) (c.verified.ensures.code ∙ ap (λ (m : Seen). m.code) c.machine.ensures.value) in
    c.in-Some.ensures.first g less (subst (λ (k : Code). IsNamed k.functions.items c.args.name.now g) (sym same) is)

pub returns-in-None-clause-none : goal.returns-in-None-clause-none
returns-in-None-clause-none c _ =
    let same : c.code.result.now ≡ c.args.machine.now.held.code.code = c.code.ensures.same ∙ ap (λ (v : Checked). v.code) (c.verified.ensures.code ∙ ap (λ (m : Seen). m.code) c.machine.ensures.value) in
    (refl, refl, λ f some is. c.in-None.ensures.none f some (subst (λ (k : Code). IsNamed k.functions.items c.args.name.now f) (sym same) is))
