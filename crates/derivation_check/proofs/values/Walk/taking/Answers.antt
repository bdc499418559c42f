use Rattle.std.proofs.Common.{◌≡◌, ◌∙◌, sym, ap, subst, ℕ, List, Some}
use Rattle.std.specs.Prelude.{IfSome, IfNone}
use Rattle.fip_trees.specs.TreeView.{program, argument}
use Rattle.fip_rules.specs.World.{world}
use Rattle.derivation_trees.specs.declared.derivation.RuleName.TheVariants as R
use Rattle.derivation_trees.specs.declared.derivation.Credit as D
use Rattle.derivation_trees.specs.Trees.{Trees, Branch}
use Rattle.derivation_check.specs.Heads.{IsTaking}
use Rattle.derivation_check.specs.Places.{at, node_with}
use Rattle.derivation_check.specs.ScopeView.{frames, scope_of}
use Rattle.derivation_check.proofs.Inside.{argument_variable}
use Rattle.derivation_check.proofs.values.Walk.taking.Goals as goal

pub returns-in-Variable-clause-only : goal.returns-in-Variable-clause-only
returns-in-Variable-clause-only c = subst (λ a. IfSome c.taking_variable.result (λ h. (k : ℕ) (xs : List ℕ) (cs : List D.Credit) (ts : Trees) → IsTaking (world (program c.args.self.now.program.now) c.args.self.now.kind) (scope_of (frames c.args.scope.now)) c.args.next a (at c.args.self.now.nodes.now c.args.place) k xs cs ts → (h.taken ≡ Some k) × (node_with c.args.self.now.nodes.now h.found.first h.found.node.now ≡ Branch R.TakingMatch xs cs ts))) (sym (ap argument c.in-Variable.is ∙ argument_variable c.in-Variable.binder c.in-Variable.name c.in-Variable.place)) c.taking_variable.ensures.only

pub returns-in-Variable-clause-other : goal.returns-in-Variable-clause-other
returns-in-Variable-clause-other c = subst (λ a. IfNone c.taking_variable.result ((k : ℕ) (xs : List ℕ) (cs : List D.Credit) (ts : Trees) → IsTaking (world (program c.args.self.now.program.now) c.args.self.now.kind) (scope_of (frames c.args.scope.now)) c.args.next a (at c.args.self.now.nodes.now c.args.place) k xs cs ts → ⊥)) (sym (ap argument c.in-Variable.is ∙ argument_variable c.in-Variable.binder c.in-Variable.name c.in-Variable.place)) c.taking_variable.ensures.other
