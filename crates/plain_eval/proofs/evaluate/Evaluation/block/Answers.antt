use Rattle.std.proofs.Common.{arith, refl, suc, sym, ap, ◌≡◌, ◌≤◌, ◌∙◌, ◌+◌, ◌*◌, subst, Some}
use Rattle.std.specs.Prelude.{slice_get}
use Rattle.std.proofs.lemmas.Option.{slice_get-get_or, slice_get_past}
use Rattle.fip_trees.specs.declared.program.Block.{out-Block}
use Rattle.fip_trees.specs.declared.program.Binding.{out-Binding}
use Rattle.fip_trees.specs.Tree as T
use Rattle.fip_trees.specs.TreeView.{expression}
use Rattle.plain_eval.specs.Machine.{rest_of, waiting_size}
use Rattle.plain_eval.specs.Work.{expression_size, block_size}
use Rattle.plain_eval.proofs.Waiting.{rest_last, rest_let, size_push}
use Rattle.plain_eval.proofs.Steps.{block_last, block_let, let_less}
use Rattle.plain_eval.proofs.Forms.{form_less}
use Rattle.plain_eval.proofs.evaluate.Evaluation.block.Goals as goal

pub returns-in_default-clause-leads : goal.returns-in_default-clause-leads
returns-in_default-clause-leads c = λ p a h.
    let b = c.args.block.now in
    let n = c.args.next in
    let none = ap (λ l. slice_get l n) (sym c.deref.ensures.value) ∙ slice_get_past c.deref.result.now n c.in_default.ensures.lookup.3 in
    block_last p c.args.self.now b n (expression (out-Block b).last) a (rest_last b n none) h

pub returns-in_default-clause-less : goal.returns-in_default-clause-less
returns-in_default-clause-less c = λ most.
    let b = c.args.block.now in
    let n = c.args.next in
    let none = ap (λ l. slice_get l n) (sym c.deref.ensures.value) ∙ slice_get_past c.deref.result.now n c.in_default.ensures.lookup.3 in
    form_less ((1 + most) * c.args.self.now.calls) (expression_size (expression (out-Block b).last)) (waiting_size c.args.self.now.waiting.items) (block_size (rest_of b n)) (ap block_size (rest_last b n none))

pub returns-clause-leads : goal.returns-clause-leads
returns-clause-leads c = λ p a h.
    let b = c.args.block.now in
    let n = c.args.next in
    let x = c.in-Some.binding.now in
    let found = ap (λ l. slice_get l n) (sym c.deref.ensures.value) ∙ slice_get-get_or c.deref.result.now n x c.in-Some.ensures.lookup.3.0 ∙ ap Some (sym c.in-Some.ensures.lookup.1) in
    let bound = expression (out-Binding x).bound in
    let next : suc n ≡ n + 1 = omega arith in
    let q = rest_let b n x found ∙ ap (λ bs. T.Let bs bound (rest_of b (suc n))) (sym c.as_slice.ensures.value) ∙ ap (λ m. T.Let c.as_slice.result.now bound (rest_of b m)) next in
    block_let p c.args.self.now _ b n _ bound a q c.in_ok-push.ensures.items refl refl refl refl refl refl refl refl c.base.ensures.same c.end.ensures.same h

pub returns-clause-less : goal.returns-clause-less
returns-clause-less c = λ most.
    let b = c.args.block.now in
    let n = c.args.next in
    let x = c.in-Some.binding.now in
    let found = ap (λ l. slice_get l n) (sym c.deref.ensures.value) ∙ slice_get-get_or c.deref.result.now n x c.in-Some.ensures.lookup.3.0 ∙ ap Some (sym c.in-Some.ensures.lookup.1) in
    let bound = expression (out-Binding x).bound in
    let next : suc n ≡ n + 1 = omega arith in
    let q = ap block_size (rest_let b n x found ∙ ap (λ m. T.Let (out-Binding x).binders.items bound (rest_of b m)) next) in
    let old = waiting_size c.args.self.now.waiting.items in
    let now = waiting_size c.push.new.self.items in
    let most' = (1 + most) * c.args.self.now.calls in
    subst (λ z. most' + (suc (expression_size bound) + now) ≤ most' + (z + old)) (sym q) (let_less most' (expression_size bound) (block_size (rest_of b (n + 1))) old now (ap waiting_size c.in_ok-push.ensures.items ∙ size_push c.args.self.now.waiting.items _))
