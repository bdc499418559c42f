use Rattle.std.proofs.Common.{◌≡◌, ◌∙◌, Some, ap, subst, slice_get}
use Rattle.fip_host.specs.Hosting.{Seen}
use Rattle.fip_host.specs.Telling.{byte_count, filled}
use Rattle.fip_host.proofs.calls.codes.fip_name.Goals as goal

pub returns-in-Some-clause-reports : goal.returns-in-Some-clause-reports
returns-in-Some-clause-reports c _ =
    let function = c.in-Some.function.now in
    let at = subst (λ (m : Seen). slice_get m.code.code.functions.items c.args.number ≡ Some function) c.machine.ensures.value c.in-Some.ensures.some in
    (function, at, c.fill.ensures.out ∙ ap (filled c.args.out.now) c.as_slice.ensures.same, c.fill.ensures.length ∙ ap byte_count c.as_slice.ensures.same)
