use Rattle.std.proofs.Common.{refl, sym, ap, ◌≡◌, ◌∙◌, ◌++◌, ◌∷◌, [], subst}
use Rattle.std.specs.Prelude.{slice_get, Ok, Err}
use Rattle.fip_trees.specs.fip_language.Arithmetic.{operate}
use Rattle.fip_trees.specs.TreeView.{argument}
use Rattle.plain_eval.specs.Operating.{IsOutcome}
use Rattle.plain_eval.proofs.Steps.{operands, operation_gives, operation_traps}
use Rattle.plain_eval.proofs.evaluate.Evaluation.operation.Goals as goal

pub returns-in-None-clause-leads : goal.returns-in-None-clause-leads
returns-in-None-clause-leads c = λ p a n h.
    let e = c.args.self.now in
    let t = c.give-2.new in
    let x = operands p e c.args.operator c.args.place (argument c.args.left.now) (argument c.args.right.now) c.give.new.store t.store c.give.new.given.items t.given.items a n c.in_ok-give.ensures.kept c.in_ok-give-2.ensures.kept c.in_ok-give.ensures.gives c.in_ok-give-2.ensures.gives h in
    let l = c.value_at-left.ensures.at _ (ap (λ l. slice_get l 0) c.as_slice.ensures.value ∙ x.left) in
    let r = c.value_at-right.ensures.at _ (ap (λ l. slice_get l 1) c.as_slice-2.ensures.value ∙ x.right) in
    let y = c.in-None.ensures.ints x.i x.j l r in
    let z = y.1 in cc

pub returns-in_ok-push-in-Some-Ok-clause-leads : goal.returns-in_ok-push-in-Some-Ok-clause-leads
returns-in_ok-push-in-Some-Ok-clause-leads c = λ p a n h.
    let e = c.args.self.now in
    let t = c.give-2.new in
    let x = operands p e c.args.operator c.args.place (argument c.args.left.now) (argument c.args.right.now) c.give.new.store t.store c.give.new.given.items t.given.items a n c.in_ok-give.ensures.kept c.in_ok-give-2.ensures.kept c.in_ok-give.ensures.gives c.in_ok-give-2.ensures.gives h in
    let l = c.value_at-left.ensures.at _ (ap (λ l. slice_get l 0) c.as_slice.ensures.value ∙ x.left) in
    let r = c.value_at-right.ensures.at _ (ap (λ l. slice_get l 1) c.as_slice-2.ensures.value ∙ x.right) in
    let y = c.in-Some-Ok.ensures.ints x.i x.j l r in
    let w = c.in-Some-Ok.value in
    let same : Ok w ≡ y.0 = let q = y.1 in cc in
    operation_gives p e _ c.args.operator c.args.place t.store t.given.items w a x (subst (IsOutcome (operate c.args.operator x.i x.j)) (sym same) y.2) refl refl refl refl (c.in_ok-push-in-Some-Ok.ensures.items ∙ ap (λ l. l ++ w ∷ []) c.clear.ensures.items)

pub returns-in-Some-Err-clause-leads : goal.returns-in-Some-Err-clause-leads
returns-in-Some-Err-clause-leads c = λ p a n h.
    let e = c.args.self.now in
    let t = c.give-2.new in
    let x = operands p e c.args.operator c.args.place (argument c.args.left.now) (argument c.args.right.now) c.give.new.store t.store c.give.new.given.items t.given.items a n c.in_ok-give.ensures.kept c.in_ok-give-2.ensures.kept c.in_ok-give.ensures.gives c.in_ok-give-2.ensures.gives h in
    let l = c.value_at-left.ensures.at _ (ap (λ l. slice_get l 0) c.as_slice.ensures.value ∙ x.left) in
    let r = c.value_at-right.ensures.at _ (ap (λ l. slice_get l 1) c.as_slice-2.ensures.value ∙ x.right) in
    let y = c.in-Some-Err.ensures.ints x.i x.j l r in
    let k = c.in-Some-Err.kind in
    let same : Err k ≡ y.0 = let q = y.1 in cc in
    operation_traps p e c.args.operator c.args.place t.store t.given.items k a x (subst (IsOutcome (operate c.args.operator x.i x.j)) (sym same) y.2)
