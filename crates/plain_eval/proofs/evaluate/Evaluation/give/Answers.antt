use Rattle.std.proofs.Common.{refl}
use Rattle.fip_trees.specs.fip_language.Meaning.{Gives, ends}
use Rattle.fip_trees.specs.TreeView.{arguments}
use Rattle.plain_eval.proofs.Steps.{gives_all}
use Rattle.plain_eval.proofs.evaluate.Evaluation.give.Goals as goal

pub returns-clause-leads : goal.returns-clause-leads
returns-clause-leads c = λ p a n h. (gives_all p c.args.self.now _ (arguments c.args.arguments.now) (λ w vs. ends (Gives vs c.args.self.now.calls)) a n refl refl c.in_ok-give_all.ensures.kept c.in_ok-give_all.ensures.gives h).1
