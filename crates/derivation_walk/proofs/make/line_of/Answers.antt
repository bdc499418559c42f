use Rattle.std.proofs.Common.{◌≡◌, ap, refl, Err}
use Rattle.std.proofs.lemmas.Result.{err_from_is_err_and}
use Rattle.fip_trees.specs.TreeView as V
use Rattle.derivation_trees.specs.Building.{built, nothing_built}
use Rattle.derivation_trees.specs.Trees.{heads}
use Rattle.derivation_walk.specs.Seen.{world_of}
use Rattle.derivation_walk.specs.Growing.{grown}
use Rattle.derivation_walk.specs.Walked.{Guided, walked_instance}
use Rattle.derivation_walk.proofs.Growing.{line_is, is_tree, closed_up}
use Rattle.derivation_walk.proofs.Whole.{instance_whole}
use Rattle.derivation_walk.proofs.Short.{too_long}
use Rattle.derivation_walk.proofs.make.line_of.Goals as goal

pub returns-clause-tree : goal.returns-clause-tree
returns-clause-tree c =
    let g : Guided = record { world = world_of c.args.context.now; uses = c.in_ok-uses.uses; needs = c.args.needs.now } in
    let d = V.instance_of c.args.instance.now in
    let b = built c.in_ok-nodes.nodes in
    let e : b ≡ grown nothing_built (walked_instance g d) = c.in_ok-nodes.ensures.grows in
    is_tree c.new.result b (walked_instance g d) (instance_whole g d) e (ap heads (c.new.ensures.nodes (closed_up b (walked_instance g d) e)))

pub returns-clause-walked : goal.returns-clause-walked
returns-clause-walked c =
    let g : Guided = record { world = world_of c.args.context.now; uses = c.in_ok-uses.uses; needs = c.args.needs.now } in
    let d = V.instance_of c.args.instance.now in
    let b = built c.in_ok-nodes.nodes in
    let e : b ≡ grown nothing_built (walked_instance g d) = c.in_ok-nodes.ensures.grows in
    record {
      uses = c.in_ok-uses.uses;
      of = c.in_ok-uses.ensures.of;
      is = line_is c.new.result b (walked_instance g d) (instance_whole g d) e (ap heads (c.new.ensures.nodes (closed_up b (walked_instance g d) e)));
    }

pub returns-in_err-nodes-clause-long : goal.returns-in_err-nodes-clause-long
returns-in_err-nodes-clause-long c =
    let g : Guided = record { world = world_of c.args.context.now; uses = c.in_ok-uses.uses; needs = c.args.needs.now } in
    let d = V.instance_of c.args.instance.now in
    let p = err_from_is_err_and c.from_residual-in_err-nodes.result c.from_residual-in_err-nodes.ensures.1 in
    λ k. (
      walked_instance g d,
      instance_whole g d,
      record { uses = c.in_ok-uses.uses; of = c.in_ok-uses.ensures.of; is = refl },
      c.in_err-nodes.ensures.short (ap Err (too_long c.from_residual-in_err-nodes.result p.0 c.in_err-nodes.field-0.0 p.1 p.2 k)),
    )
