use Rattle.std.proofs.Common.{ap, sym, ◌∙◌, subst}
use Rattle.fip_trees.specs.TreeView.{instances}
use Rattle.plain_eval.specs.Machine.{Reaches}
use Rattle.plain_eval.proofs.evaluate.run.Goals as goal

pub running-preserved : goal.running-preserved
running-preserved c =
    let inv = c.running.invariant in
    let one = c.in_ok-step-in-Went.ensures in
    record {
      same = one.same ∙ inv.same;
      leads = λ p a i n h. one.leads p a (i ∙ ap (λ x. instances x.now) (sym inv.same)) n (subst (λ s. Reaches p c.running.evaluation s a) c.in-Went.is (inv.leads p a i n h));
    }

pub returns-in-Value-clause-leads : goal.returns-in-Value-clause-leads
returns-in-Value-clause-leads c = λ p a i n h. subst (λ s. Reaches p c.running.evaluation s a) c.in-Value.is (c.running.invariant.leads p a i n h)

pub returns-in-Trap-clause-leads : goal.returns-in-Trap-clause-leads
returns-in-Trap-clause-leads c = λ p a i n h. subst (λ s. Reaches p c.running.evaluation s a) c.in-Trap.is (c.running.invariant.leads p a i n h)

pub returns-in-Out-clause-leads : goal.returns-in-Out-clause-leads
returns-in-Out-clause-leads c = λ p a i n h. subst (λ s. Reaches p c.running.evaluation s a) c.in-Out.is (c.running.invariant.leads p a i n h)

pub returns-in-Deep-clause-leads : goal.returns-in-Deep-clause-leads
returns-in-Deep-clause-leads c = λ p a i n h. subst (λ s. Reaches p c.running.evaluation s a) c.in-Deep.is (c.running.invariant.leads p a i n h)
