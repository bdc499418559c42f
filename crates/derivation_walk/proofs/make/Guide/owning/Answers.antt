use Rattle.std.proofs.Common.{◌∙◌, ap}
use Rattle.fip_trees.specs.TreeView.{argument}
use Rattle.derivation_walk.specs.Guides.{guided}
use Rattle.derivation_walk.specs.Walked.{owning, sorted}
use Rattle.derivation_walk.proofs.Sorting.{sorted_is}
use Rattle.derivation_walk.proofs.make.Guide.owning.Goals as goal

pub returns : goal.returns
returns c =
    sorted_is c.add_owning.new.variables.items c.sort_unstable.new.self.items c.sort_unstable.ensures.permutation c.sort_unstable.ensures.sorted
    ∙ ap sorted (c.in_ok-add_owning.ensures ∙ ap (λ z. owning (guided c.args.self.now) z (argument c.args.argument.now)) c.new-variables.ensures.items)
