use Rattle.std.proofs.Common.{◌≡◌, ◌∙◌, subst, sym, ap}
use Rattle.closed_types.specs.Closed.{arguments_of}
use Rattle.closed_types.specs.BranchView.{branch}
use Rattle.closed_types.specs.SharedTrees.{AreWithin, trees, trees_at}
use Rattle.closed_types.proofs.SharedAt.{tree_by, none_by, within_by}
use Rattle.closed_types.proofs.closed.Shared.arguments_at.Goals as goal

pub returns-in_ok-arguments-in-Some-clause-within : goal.returns-in_ok-arguments-in-Some-clause-within
returns-in_ok-arguments-in-Some-clause-within c =
    let e : c.in_ok-arguments-in-Some.arguments.items ≡ c.in-Some.tree.now.arguments.items = c.in_ok-arguments-in-Some.ensures ∙ c.deref.ensures.value in
    subst (AreWithin c.args.self.now.branches) (sym e) (within_by c.args.self.now.branches c.args.place (branch c.in-Some.tree.now) c.hold.ensures.shared.before c.in-Some.ensures.1)

pub returns-in_ok-arguments-in-Some-clause-trees : goal.returns-in_ok-arguments-in-Some-clause-trees
returns-in_ok-arguments-in-Some-clause-trees c =
    let e : c.in_ok-arguments-in-Some.arguments.items ≡ c.in-Some.tree.now.arguments.items = c.in_ok-arguments-in-Some.ensures ∙ c.deref.ensures.value in
    ap (trees_at (trees c.args.self.now.branches)) e
    ∙ sym (ap arguments_of (tree_by c.args.self.now.branches c.args.place (branch c.in-Some.tree.now) c.hold.ensures.shared.before c.in-Some.ensures.0 c.in-Some.ensures.1))

pub returns-in-None-clause-trees : goal.returns-in-None-clause-trees
returns-in-None-clause-trees c =
    ap (trees_at (trees c.args.self.now.branches)) c.new.ensures.items
    ∙ sym (ap arguments_of (none_by c.args.self.now.branches c.args.place c.in-None.ensures))
