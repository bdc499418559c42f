use Rattle.std.proofs.Common.{◌≡◌, ◌∙◌, Some, slice_get, ap, sym, arith}
use Rattle.std.proofs.lemmas.Option.{slice_get-get_or}
use Rattle.std.proofs.lemmas.Slice.Eq.{bytes_eq-Decides}
use Rattle.std.proofs.lemmas.Bool.{both_ways}
use Rattle.cell_code.proofs.ByName.{IsNamed_none_more, IsNamed_within}
use Rattle.cell_code.proofs.code.first_named.Goals as goal

pub returns-then-is_named-clause-found : goal.returns-then-is_named-clause-found
returns-then-is_named-clause-found c =
    let list = c.args.functions.now in
    let n = c.loop-number.number in
    let f = c.index-functions-number.result in
    let there : slice_get list n ≡ Some f = slice_get-get_or list n f c.loop-number-test.true ∙ ap Some (sym c.index-functions-number.is) in
    (f, there, (bytes_eq-Decides f.name c.args.name.now).0 (sym c.is_named.ensures.is ∙ c.if-is_named.true))

pub loop-number-preserved : goal.loop-number-preserved
loop-number-preserved c =
    let f = c.index-functions-number.result in
    IsNamed_none_more c.args.functions.now c.args.name.now c.loop-number.number f c.index-functions-number.is
    (λ e. both_ways c.is_named.result c.if-is_named.false (c.is_named.ensures.is ∙ (bytes_eq-Decides f.name c.args.name.now).1 e)) c.loop-number.invariant

pub returns-clause-none : goal.returns-clause-none
returns-clause-none c n is = c.loop-number.invariant n (omega (arith, IsNamed_within c.args.functions.now c.args.name.now n is, c.loop-number-test.false)) is
