use Rattle.std.proofs.Common.{◌≡◌, Some, refl, subst, slice_get}
use Rattle.std.proofs.lemmas.Option.{slice_get_read}
use Rattle.fip_host.specs.Hosting.{Seen}
use Rattle.fip_host.proofs.calls.codes.fip_result_type.Goals as goal

pub returns-in-Some-get-clause-reports : goal.returns-in-Some-get-clause-reports
returns-in-Some-get-clause-reports c _ =
    let function = c.in-Some.function.now in
    let at = subst (λ (m : Seen). slice_get m.code.code.functions.items c.args.number ≡ Some function) c.machine.ensures.value c.in-Some.ensures.some in
    let here = slice_get_read c.as_slice.result.now _ c.args.i c.in-Some-get.ty.now refl c.in-Some-get.ensures.lookup.3.0 c.in-Some-get.ensures.lookup.1 in
    (function, at, subst (λ xs. slice_get xs c.args.i ≡ Some c.in-Some-get.ty.now) c.as_slice.ensures.same here)
