use Rattle.std.proofs.Common.{subst, sym}
use Rattle.fip_trees.specs.TreeView.{program, instance_of}
use Rattle.fip_rules.specs.World.{world}
use Rattle.derivation_check.specs.Places.{at}
use Rattle.derivation_check.specs.Accepted.{DerivesInstance}
use Rattle.derivation_check.proofs.accept.is_derived.Goals as goal

pub returns-clause-derived : goal.returns-clause-derived
returns-clause-derived c h = subst (λ ns. DerivesInstance (world (program c.args.program.now) c.args.instance.now.kind) (instance_of c.args.instance.now) (at ns 0)) c.nodes.ensures.nodes (c.function.ensures.derived h)

pub returns-clause-complete : goal.returns-clause-complete
returns-clause-complete c e h = c.function.ensures.complete (subst (λ ns. DerivesInstance (world (program c.args.program.now) c.args.instance.now.kind) (instance_of c.args.instance.now) (at ns 0)) (sym c.nodes.ensures.nodes) h)
