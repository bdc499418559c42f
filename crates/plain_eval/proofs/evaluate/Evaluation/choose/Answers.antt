use Rattle.std.proofs.Common.{arith, refl, sym, ap, ◌≤◌, ◌∙◌, ◌∷◌, subst}
use Rattle.std.specs.Prelude.{slice_get}
use Rattle.fip_trees.specs.TreeView.{argument, clauses, block}
use Rattle.instance_semantics.specs.Meaning.{evaluate_block}
use Rattle.plain_eval.specs.Choosing.{Chooses}
use Rattle.plain_eval.specs.Machine.{rest_of}
use Rattle.plain_eval.specs.Work.{block_size, clauses_size}
use Rattle.plain_eval.proofs.Waiting.{rest_start}
use Rattle.plain_eval.proofs.Steps.{leads_as, chooses_leads, chooses_none}
use Rattle.plain_eval.proofs.evaluate.Evaluation.choose.Goals as goal

pub returns-in-Some-clause-leads : goal.returns-in-Some-clause-leads
returns-in-Some-clause-leads c = λ p a n h.
    let e = c.args.self.now in
    let s = c.give.new.store in
    let cs = clauses (c.args.first.now ∷ c.args.others.now) in
    let b = c.in-Some.block in
    let vars = c.chosen.new.variables in
    leads_as p _ (λ env w. evaluate_block p w (block b.now) e.is_tail e.frames env e.calls) _ a (λ env w. ap (λ r. evaluate_block p w r e.is_tail e.frames env e.calls) (sym (rest_start b.now)))
    (chooses_leads p e _ s (argument c.args.scrutinee.now) cs c.value_at-value.result c.give.new.given.items b a n refl refl refl refl refl c.in_ok-give.ensures.kept c.clear.ensures.items c.in_ok-block.ensures.longer c.in_ok-block.ensures.keeps c.in_ok-give.ensures.gives (λ w z. c.value_at-value.ensures.at w (ap (λ l. slice_get l 0) c.as_slice.ensures.value ∙ z)) (λ env v k l. subst (λ o. Chooses cs v env s vars o) c.in-Some.is (c.in_ok-block.ensures.chooses env v k l)) h)

pub returns-in-Some-clause-less : goal.returns-in-Some-clause-less
returns-in-Some-clause-less c =
    let cs = clauses (c.args.first.now ∷ c.args.others.now) in
    let b = c.in-Some.block in
    let l : block_size (rest_of b.now 0) ≤ clauses_size cs = subst (λ r. block_size r ≤ clauses_size cs) (sym (rest_start b.now)) (c.in_ok-block.ensures.less b c.in-Some.is) in
    omega (arith, l)

pub returns-in-None-clause-leads : goal.returns-in-None-clause-leads
returns-in-None-clause-leads c = λ p a n h.
    let e = c.args.self.now in
    let s = c.give.new.store in
    let cs = clauses (c.args.first.now ∷ c.args.others.now) in
    let vars = c.chosen.new.variables in
    absurd (chooses_none p e s vars (argument c.args.scrutinee.now) cs c.value_at-value.result c.give.new.given.items a n c.in_ok-give.ensures.kept c.in_ok-give.ensures.gives (λ w z. c.value_at-value.ensures.at w (ap (λ l. slice_get l 0) c.as_slice.ensures.value ∙ z)) (λ env v k l. subst (λ o. Chooses cs v env s vars o) c.in-None.is (c.in_ok-block.ensures.chooses env v k l)) h)
