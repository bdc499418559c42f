use Rattle.std.proofs.Common.{refl}
use Rattle.match_knowledge.specs.View.{rows, known}
use Rattle.match_cover.proofs.TreeGrowth.{some_decision, no_decision}
use Rattle.match_cover.proofs.trees.decision_of.Goals as goal

pub returns-in-None : goal.returns-in-None
returns-in-None c = λ t q. no_decision c.args.types.now t (rows c.args.ps.now) (known c.open-k.result) 1024 c.in_ok-grow.field-0 c.open-k.ensures refl c.in_ok-grow.ensures c.in-None.is

pub returns : goal.returns
returns c = λ t q. some_decision c.args.types.now t (rows c.args.ps.now) (known c.open-k.result) 1024 c.in_ok-grow.field-0 c.in-Some.grown q c.open-k.ensures refl c.in_ok-grow.ensures c.in-Some.is
