use Rattle.std.proofs.Common.{refl}
use Rattle.fip_trees.specs.TreeView.{arguments}
use Rattle.plain_eval.proofs.Slots.{if_ok}
use Rattle.plain_eval.proofs.Steps.{gives_all, call_run}
use Rattle.plain_eval.proofs.evaluate.Evaluation.call_with.Goals as goal

pub returns-clause-leads : goal.returns-clause-leads
returns-clause-leads c =
    let e = c.args.self.now in
    if_ok c.call.result (λ s f p a i n h. f p a i n (gives_all p e _ (arguments c.args.arguments.now) (call_run p e c.args.callee) a n refl refl c.in_ok-give_all.ensures.kept c.in_ok-give_all.ensures.gives h)) c.call.ensures.leads
