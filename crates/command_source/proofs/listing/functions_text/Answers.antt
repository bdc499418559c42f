use Rattle.std.proofs.Common.{◌∙◌, ◌++◌, ℕ, suc, List, map, drop, sym, ap, subst, add-one}
use Rattle.cell_code.specs.Plain.{plain_function, plain}
use Rattle.command_source.specs.Codes.{AreLines}
use Rattle.command_source.proofs.CodeFiles.{more_lines, all_lines, drop_at, drop_end}
use Rattle.command_source.proofs.listing.functions_text.Goals as goal

pub loop-number-preserved : goal.loop-number-preserved
loop-number-preserved c =
    let code = plain c.args.verified.now.code in
    let list = c.deref-function-items.result.now in
    let n = c.loop-number.number in
    let f = c.function-item.result in
    let all = map plain_function list in
    let old = c.loop-number.text.items in
    let line = c.in_ok-put_named.ensures.line code n c.code_stack.ensures.exact in
    let next = drop_at list n f c.loop-number-test.true c.function-item.is in
    let rest = subst (λ ds. (more : List ℕ) → AreLines code n (map plain_function ds) more → AreLines code 0 all (old ++ more)) next c.loop-number.invariant.rest in
    record {
      rest = λ more h. subst (λ t. AreLines code 0 all (t ++ more)) (sym line.2) (more_lines code all n (plain_function f) (map plain_function (drop (suc n) list)) old line.0 rest line.1 more (subst (λ k. AreLines code k (map plain_function (drop k list)) more) (add-one n) h));
    }

pub returns : goal.returns
returns c =
    let code = plain c.args.verified.now.code in
    let list = c.deref-function-items.result.now in
    let all = map plain_function list in
    let text = c.loop-number.text.items in
    let done = drop_end list c.loop-number.number c.loop-number-test.false in
    let rest = subst (λ ds. (more : List ℕ) → AreLines code c.loop-number.number (map plain_function ds) more → AreLines code 0 all (text ++ more)) done c.loop-number.invariant.rest in
    let same = ap (map plain_function) (c.deref-function-items.ensures.value ∙ ap (λ x. x.functions.items) c.code.ensures.same) in
    record { lines = subst (λ fs. AreLines code 0 fs text) same (all_lines code all c.loop-number.number text rest) }
