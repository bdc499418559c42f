use Rattle.std.proofs.Common.{◌≡◌, subst, ℕ, List, true, false}
use Rattle.fip_trees.specs.TreeView.{program}
use Rattle.fip_rules.specs.World.{world}
use Rattle.derivation_trees.specs.declared.derivation.RuleName.TheVariants as R
use Rattle.derivation_trees.specs.declared.derivation.Credit as D
use Rattle.derivation_trees.specs.Trees.{Trees, Branch}
use Rattle.ownership_calculus.specs.Terms.{given}
use Rattle.derivation_check.specs.Heads.{TakenNode}
use Rattle.derivation_check.specs.Places.{at}
use Rattle.derivation_check.specs.ScopeView.{known_as}
use Rattle.derivation_check.proofs.Windows.{given_below}
use Rattle.derivation_check.proofs.values.Walk.taking_variable.Goals as goal

pub returns-then-is_scalar-clause-other : goal.returns-then-is_scalar-clause-other
returns-then-is_scalar-clause-other c k xs cs ts h =
    let m = c.in-Some.ensures.some in
    let g = subst (λ o. TakenNode (world (program c.args.self.now.program.now) c.args.self.now.kind) c.args.next o (at c.args.self.now.nodes.now c.args.place) k xs cs ts) m.1 h in
    let a = g.0 in let b = c.is_scalar.ensures.scalar in let e = c.if-is_scalar.true in cc

pub returns-else-not-has_once-clause-inside : goal.returns-else-not-has_once-clause-inside
returns-else-not-has_once-clause-inside c = given_below 0 c.args.next c.in-Some.variable.number c.in-Some-ruled.found.node.now.variables.items c.in-Some-ruled.ensures.found.1.0 (subst (λ ys. given c.in-Some.variable.number ys ≡ 1) c.deref.ensures.value (c.has_once.ensures.sound c.if-not-has_once.false))
