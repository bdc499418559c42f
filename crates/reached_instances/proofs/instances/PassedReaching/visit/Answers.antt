use Rattle.std.proofs.Common.{◌∙◌, ℕ, List, ap, sym, subst}
use Rattle.closed_types.specs.Instances.{functions_among}
use Rattle.closed_types.specs.SharedTrees.{AreWithin, tree_at, trees, trees_at}
use Rattle.reached_instances.proofs.Typing.{given_functions}
use Rattle.reached_instances.proofs.instances.PassedReaching.visit.Goals as goal

pub returns-clause-visited : goal.returns-clause-visited
returns-clause-visited c = λ r.
    let k = c.args.shared.now in
    let p = c.in_ok-places.ensures (subst (AreWithin k.branches) (sym c.deref.ensures.value) c.in_ok-arguments.ensures.within) in
    record {
      grows = p.grows;
      right = r;
      within = p.within;
      trees = p.trees ∙ ap (λ (is : List ℕ). functions_among (trees_at (trees k.branches) is)) c.deref.ensures.value ∙ ap functions_among c.in_ok-arguments.ensures.trees ∙ given_functions (tree_at (trees k.branches) c.args.place);
    }
