use Rattle.std.proofs.Common.{refl}
use Rattle.tree_semantics.specs.Contents.{put}
use Rattle.tree_semantics.proofs.theorems.an_example_runs_on_trees.Goals as goal

pub returns-clause-reversed : goal.returns-clause-reversed
unfolding put
returns-clause-reversed c = refl

pub returns-clause-deep : goal.returns-clause-deep
unfolding put
returns-clause-deep c = refl

pub returns-clause-out : goal.returns-clause-out
unfolding put
returns-clause-out c = refl

pub returns-clause-traps : goal.returns-clause-traps
unfolding put
returns-clause-traps c = refl
