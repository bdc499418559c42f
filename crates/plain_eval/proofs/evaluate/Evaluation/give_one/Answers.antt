use Rattle.std.proofs.Common.{refl}
use Rattle.fip_trees.specs.TreeView.{argument}
use Rattle.plain_eval.proofs.Steps.{gives_one}
use Rattle.plain_eval.proofs.evaluate.Evaluation.give_one.Goals as goal

pub returns-clause-leads : goal.returns-clause-leads
returns-clause-leads c = λ p a n h. gives_one p c.args.self.now _ (argument c.args.argument.now) a n refl refl refl c.in_ok-give.ensures.kept c.in_ok-give.ensures.gives h
