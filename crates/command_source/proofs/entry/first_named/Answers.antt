use Rattle.std.proofs.Common.{◌≡◌, ◌∙◌, Some, slice_get, ap, sym}
use Rattle.std.proofs.lemmas.Option.{slice_get-get_or}
use Rattle.std.proofs.lemmas.Slice.Eq.{bytes_eq-Decides}
use Rattle.command_source.proofs.entry.first_named.Goals as goal

pub returns-then-is_named-clause-is : goal.returns-then-is_named-clause-is
returns-then-is_named-clause-is c =
    let list = c.args.functions.now in
    let n = c.loop-number.number in
    let f = c.index-functions-number.result in
    let there : slice_get list n ≡ Some f = slice_get-get_or list n f c.loop-number-test.true ∙ ap Some (sym c.index-functions-number.is) in
    (f, there, (bytes_eq-Decides f.name c.args.name.now).0 (sym c.is_named.ensures.is ∙ c.if-is_named.true))
