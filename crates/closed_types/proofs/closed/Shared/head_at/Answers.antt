use Rattle.std.proofs.Common.{sym, ap}
use Rattle.closed_types.specs.Closed.{head_of}
use Rattle.closed_types.specs.BranchView.{branch}
use Rattle.closed_types.proofs.SharedAt.{tree_by, none_by}
use Rattle.closed_types.proofs.closed.Shared.head_at.Goals as goal

pub returns-in-Some : goal.returns-in-Some
returns-in-Some c = sym (ap head_of (tree_by c.args.self.now.branches c.args.place (branch c.in-Some.tree.now) c.hold.ensures.shared.before c.in-Some.ensures.0 c.in-Some.ensures.1))

pub returns-in-None : goal.returns-in-None
returns-in-None c = sym (ap head_of (none_by c.args.self.now.branches c.args.place c.in-None.ensures))
