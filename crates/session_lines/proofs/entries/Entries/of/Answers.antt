-- A function more is named, or has no name.
use Rattle.std.proofs.Common.{◌≡◌, ◌∙◌, ◌≤◌, List, length, Some, refl, sym, ap, subst}
use Rattle.std.specs.Prelude.{slice_get}
use Rattle.std.proofs.lemmas.Option.{slice_get_read}
use Rattle.code_verify.specs.cell_code.declared.code.Code.{Code}
use Rattle.code_verify.specs.cell_code.declared.code.Function.{Function}
use Rattle.session_lines.proofs.Naming.{step_on, all_first}
use Rattle.session_lines.proofs.entries.Entries.of.Goals as goal

pub loop-number-preserved : goal.loop-number-preserved
loop-number-preserved c =
    let fs = c.args.verified.now.code.functions.items in
    let all : c.deref-function-items.result.now ≡ fs = c.deref-function-items.ensures.value ∙ ap (λ (d : Code). d.functions.items) c.code.ensures.same in
    let gs = c.deref-function-items.result.now in
    let there : slice_get gs c.loop-number.number ≡ Some c.function-item.result = slice_get_read gs (length gs) c.loop-number.number c.function-item.result refl c.loop-number-test.true c.function-item.is in
    let at : slice_get fs c.loop-number.number ≡ Some c.function-item.result = ap (λ (xs : List Function). slice_get xs c.loop-number.number) (sym all) ∙ there in
    step_on fs c.loop-number.number c.function-item.result c.loop-number.numbers at c.loop-number.invariant c.as_slice.result.now c.put.new.numbers c.as_slice.ensures.same c.in_ok-put.ensures.named c.in_ok-put.ensures.nameless

pub returns : goal.returns
returns c =
    let fs = c.args.verified.now.code.functions.items in
    let all : c.deref-function-items.result.now ≡ fs = c.deref-function-items.ensures.value ∙ ap (λ (d : Code). d.functions.items) c.code.ensures.same in
    let end : length fs ≤ c.loop-number.number = subst (λ (xs : List Function). length xs ≤ c.loop-number.number) all c.loop-number-test.false in
    record { all = all_first fs c.loop-number.number c.loop-number.numbers end c.loop-number.invariant }
