use Rattle.std.proofs.Common.{◌≡◌, ◌∙◌, Some, slice_get, ap, sym}
use Rattle.std.proofs.lemmas.Option.{slice_get-get_or}
use Rattle.command_source.proofs.Roots.{first_root}
use Rattle.command_source.proofs.entry.root_named.Goals as goal

pub returns-then-is_root-clause-first : goal.returns-then-is_root-clause-first
returns-then-is_root-clause-first c =
    let list = c.args.instances.now in
    let n = c.loop-number.number in
    let d = c.index-instances-number.result in
    let there : slice_get list n ≡ Some d = slice_get-get_or list n d c.loop-number-test.true ∙ ap Some (sym c.index-instances-number.is) in
    (d, there, sym c.loop-number.invariant.rest ∙ first_root c.args.name.now list n d there (sym c.is_root.ensures.is ∙ c.if-is_root.true))
