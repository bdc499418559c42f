use Rattle.std.proofs.Common.{◌≡◌, ◌≢◌}
use Rattle.fip_trees.specs.fip_language.Meaning.{Answer, Stuck}
use Rattle.fip_trees.specs.Tree as T
use Rattle.fip_trees.specs.TreeView.{instances}
use Rattle.plain_eval.specs.Machine.{LeadsIn, Reaches, work, step_size}
use Rattle.plain_eval.specs.Work.{largest}
use Rattle.plain_eval.proofs.evaluate.run.Given as goal

abbrev pub invariant-running : goal.invariant-running
invariant-running l = record {
  same : l.evaluation.instances ≡ l.fn.evaluation.instances;
  leads : (p : T.Program) (a : Answer) → p.instances ≡ instances l.fn.evaluation.instances.now → a ≢ Stuck → LeadsIn p l.fn.evaluation l.fn.f a → Reaches p l.evaluation l.step a;
}

abbrev pub decreases-running : goal.decreases-running
decreases-running l = work (largest (instances l.evaluation.instances.now)) l.evaluation.calls (step_size l.step) l.evaluation.waiting.items
