use Rattle.closed_types.proofs.Growing.{grows_same}
use Rattle.closed_types.proofs.closed.Shared.share.Goals as goal

pub returns-then-not-are_within-clause-grows : goal.returns-then-not-are_within-clause-grows
returns-then-not-are_within-clause-grows c = grows_same c.args.self.now.branches
