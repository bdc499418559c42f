use Rattle.std.proofs.Common.{suc, sym, ap, ◌∙◌, ◌+◌, ◌*◌, ◌∷◌}
use Rattle.fip_trees.specs.TreeView.{argument, arguments, expression, block, clauses, instances}
use Rattle.fip_trees.proofs.TreeViews.{expression_match, expression_nested}
use Rattle.fip_trees.specs.fip_language.Meaning.{Gives, ends, with_value, with_values}
use Rattle.instance_semantics.specs.Meaning.{argument_value, argument_values, evaluate, evaluate_block, evaluate_clauses}
use Rattle.instance_semantics.proofs.Equations.{evaluate_give, evaluate_tuple, evaluate_operation, evaluate_match, evaluate_nested}
use Rattle.plain_eval.proofs.InstanceCalls.{evaluate_call}
use Rattle.plain_eval.specs.Machine.{waiting_size}
use Rattle.plain_eval.specs.Work.{expression_size, block_size, largest}
use Rattle.plain_eval.proofs.Slots.{if_ok}
use Rattle.plain_eval.proofs.Waiting.{rest_start}
use Rattle.plain_eval.proofs.Steps.{leads_as, call_run}
use Rattle.plain_eval.proofs.Forms.{expression_give, expression_tuple, expression_operation, expression_call, form_less}
use Rattle.plain_eval.proofs.evaluate.Evaluation.expression.Goals as goal

pub returns-in-Give-clause-leads : goal.returns-in-Give-clause-leads
returns-in-Give-clause-leads c =
    let e = c.args.self.now in
    let m = c.in-Give in
    let view = ap expression m.is ∙ expression_give _ in
    if_ok c.give_one.result (λ s f p a i n h. f p a n (leads_as p e _ _ a (λ env w. ap (λ x. evaluate p w x e.is_tail e.frames env e.calls) view ∙ evaluate_give p w _ e.is_tail e.frames env e.calls) h)) c.give_one.ensures.leads

pub returns-in-Tuple-clause-leads : goal.returns-in-Tuple-clause-leads
returns-in-Tuple-clause-leads c =
    let e = c.args.self.now in
    let m = c.in-Tuple in
    let view = ap expression m.is ∙ expression_tuple m.place m.arguments in
    if_ok c.give.result (λ s f p a i n h. f p a n (leads_as p e _ _ a (λ env w. ap (λ x. evaluate p w x e.is_tail e.frames env e.calls) view ∙ evaluate_tuple p w m.place (arguments m.arguments.items) e.is_tail e.frames env e.calls ∙ ap (λ l. with_values (argument_values env (arguments l)) (λ vs. ends (Gives vs e.calls))) (sym c.as_slice.ensures.value)) h)) c.give.ensures.leads

pub returns-in-Operation-clause-leads : goal.returns-in-Operation-clause-leads
returns-in-Operation-clause-leads c =
    let e = c.args.self.now in
    let m = c.in-Operation in
    let view = ap expression m.is ∙ expression_operation _ _ _ _ in
    if_ok c.operation.result (λ s f p a i n h. f p a n (leads_as p e _ _ a (λ env w. ap (λ x. evaluate p w x e.is_tail e.frames env e.calls) view ∙ evaluate_operation p w _ _ _ _ e.is_tail e.frames env e.calls) h)) c.operation.ensures.leads

pub returns-in-Call-clause-leads : goal.returns-in-Call-clause-leads
returns-in-Call-clause-leads c =
    let e = c.args.self.now in
    let m = c.in-Call in
    let view = ap expression m.is ∙ expression_call m.callee m.name m.place m.arguments in
    if_ok c.call_with.result (λ s f p a i n h. f p a i n (leads_as p e _ _ a (λ env w. ap (λ x. evaluate p w x e.is_tail e.frames env e.calls) view ∙ evaluate_call p w m.callee m.name m.place (arguments m.arguments.items) e.is_tail e.frames env e.calls ∙ ap (λ l. with_values (argument_values env (arguments l)) (call_run p e m.callee w)) (sym c.as_slice-in-Call.ensures.value)) h)) c.call_with.ensures.leads

pub returns-in-Match-clause-leads : goal.returns-in-Match-clause-leads
returns-in-Match-clause-leads c =
    let e = c.args.self.now in
    let m = c.in-Match in
    let view = ap expression m.is ∙ expression_match m.kind m.ty m.place m.scrutinee m.first m.others in
    if_ok c.choose.result (λ s f p a i n h. f p a n (leads_as p e _ _ a (λ env w. ap (λ x. evaluate p w x e.is_tail e.frames env e.calls) view ∙ evaluate_match p w _ m.ty m.place (argument m.scrutinee) _ _ (clauses m.others.items) e.is_tail e.frames env e.calls ∙ ap (λ x. with_value (argument_value env (argument m.scrutinee)) (λ v. evaluate_clauses p w (clauses (x ∷ m.others.items)) v e.is_tail e.frames env e.calls)) (sym c.deref.ensures) ∙ ap (λ l. with_value (argument_value env (argument m.scrutinee)) (λ v. evaluate_clauses p w (clauses (c.deref.result.now ∷ l)) v e.is_tail e.frames env e.calls)) (sym c.as_slice-in-Match.ensures.value)) h)) c.choose.ensures.leads

pub returns-in-Nested-clause-leads : goal.returns-in-Nested-clause-leads
returns-in-Nested-clause-leads c = λ p a i n h.
    let e = c.args.self.now in
    let m = c.in-Nested in
    let view = ap expression m.is ∙ expression_nested m.block in
    let start = ap block (sym c.deref-in-Nested.ensures) ∙ sym (rest_start c.deref-in-Nested.result.now) in
    leads_as p e _ _ a (λ env w. ap (λ x. evaluate p w x e.is_tail e.frames env e.calls) view ∙ evaluate_nested p w _ e.is_tail e.frames env e.calls ∙ ap (λ b. evaluate_block p w b e.is_tail e.frames env e.calls) start) h

pub returns-in-Nested-clause-less : goal.returns-in-Nested-clause-less
returns-in-Nested-clause-less c =
    let e = c.args.self.now in
    let m = c.in-Nested in
    let view = ap expression m.is ∙ expression_nested m.block in
    let start = ap block (sym c.deref-in-Nested.ensures) ∙ sym (rest_start c.deref-in-Nested.result.now) in
    form_less ((1 + largest (instances e.instances.now)) * e.calls) _ (waiting_size e.waiting.items) (expression_size (expression c.args.expression.now)) (ap expression_size view ∙ ap (λ b. suc (block_size b)) start)
