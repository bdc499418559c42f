use Rattle.std.proofs.Common.{arith, refl, sym, ap, ◌∙◌, ◌+◌, ◌*◌, subst}
use Rattle.plain_rows.specs.Rows.{StandAll}
use Rattle.plain_eval.specs.Slots.{Covers}
use Rattle.plain_eval.specs.Machine.{rest_of, waiting_size}
use Rattle.plain_eval.specs.Work.{block_size}
use Rattle.plain_eval.proofs.Slots.{kept_some, keeps_on}
use Rattle.plain_eval.proofs.Waiting.{size_push}
use Rattle.plain_eval.proofs.Steps.{hand_value, hand_leads, hand_less, no_items}
use Rattle.plain_eval.proofs.evaluate.Evaluation.hand.Goals as goal

pub returns-in-None-clause-leads : goal.returns-in-None-clause-leads
returns-in-None-clause-leads c = λ p a h. hand_value p c.args.self.now a (no_items c.args.self.now.waiting.items (let z = c.in-None.ensures.cases in omega (arith, z.0))) h

pub returns-in_ok-bind_all-in-Some-clause-leads : goal.returns-in_ok-bind_all-in-Some-clause-leads
returns-in_ok-bind_all-in-Some-clause-leads c = λ p a h.
    let e = c.args.self.now in
    let w = c.in-Some.waiting in
    let s = e.store in
    let left = c.leave.new.self in
    let all = c.in_ok-bind_all-in-Some.ensures in
    let kept = c.leave.ensures.keeps s in
    hand_leads p e _ w a c.in-Some.ensures.items refl refl refl c.clear.ensures.items (keeps_on s w.end e.variables.values.items left.values.items c.bind_all.new.variables.values.items kept (all.keeps s))
    (λ env vs k l. all.covers s env vs (subst (λ n. Covers s left.values.items n left.end env) (sym c.leave.ensures.base) (subst (λ n. Covers s left.values.items w.base n env) (sym c.leave.ensures.end) (kept_some s s e.variables.values.items left.values.items w.end w.base w.end env (omega arith) kept k))) (subst (λ l. StandAll s l vs) (sym c.as_slice.ensures.value) l)) (let x = all.longer in let y = c.leave.ensures.end in omega (arith, x, y)) h

pub returns-in_ok-bind_all-in-Some-clause-less : goal.returns-in_ok-bind_all-in-Some-clause-less
returns-in_ok-bind_all-in-Some-clause-less c = λ most.
    let w = c.in-Some.waiting in
    hand_less ((1 + most) * c.args.self.now.calls) (block_size (rest_of w.block.now w.next)) (waiting_size c.pop.new.self.items) (waiting_size c.args.self.now.waiting.items) (ap waiting_size c.in-Some.ensures.items ∙ size_push c.pop.new.self.items w)
