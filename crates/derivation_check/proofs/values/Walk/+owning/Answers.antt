use Rattle.std.proofs.Common.{◌∙◌, ◌++◌, List, sym, ap, ◌≡◌, drop, subst}
use Rattle.fip_trees.specs.declared.program.Binder.{Binder}
use Rattle.fip_trees.specs.TreeView.{program, patterns}
use Rattle.fip_rules.specs.World.{world}
use Rattle.derivation_check.specs.Calculus.{numbers}
use Rattle.derivation_check.proofs.Owning.{binder_binders, constructor_binders}
use Rattle.std.specs.Prelude.{IfNone}
use Rattle.fip_rules.specs.Shapes.{binders_all}
use Rattle.derivation_check.proofs.values.Walk.+owning.Goals as goal

pub owns_pattern-returns-in-Some-clause-sound : goal.owns_pattern-returns-in-Some-clause-sound
owns_pattern-returns-in-Some-clause-sound t c bs h = c.in-Some.ensures.sound bs h ∙ ap (λ (qs : List Binder). numbers (world (program c.args.self.now.program.now) c.args.self.now.kind) c.args.at.next (qs ++ bs)) (sym (binder_binders c.args.pattern.now c.in-Binder.binder c.in-Binder.is))

pub owns_pattern-returns-in-Some-clause-down : goal.owns_pattern-returns-in-Some-clause-down
owns_pattern-returns-in-Some-clause-down t c bs h = c.in-Some.ensures.down bs (h ∙ ap (λ (qs : List Binder). numbers (world (program c.args.self.now.program.now) c.args.self.now.kind) c.args.at.next (qs ++ bs)) (binder_binders c.args.pattern.now c.in-Binder.binder c.in-Binder.is))

pub owns_pattern-returns-in-None-clause-other : goal.owns_pattern-returns-in-None-clause-other
owns_pattern-returns-in-None-clause-other t c bs h = c.in-None.ensures.other bs (h ∙ ap (λ (qs : List Binder). numbers (world (program c.args.self.now.program.now) c.args.self.now.kind) c.args.at.next (qs ++ bs)) (binder_binders c.args.pattern.now c.in-Binder.binder c.in-Binder.is))

pub owns_pattern-returns-in-Constructor-clause-other : goal.owns_pattern-returns-in-Constructor-clause-other
owns_pattern-returns-in-Constructor-clause-other t c = subst (λ (qs : List Binder). IfNone c.owns_patterns.result ((bs : List Binder) → drop c.args.at.place c.args.owned.now ≡ numbers (world (program c.args.self.now.program.now) c.args.self.now.kind) c.args.at.next (qs ++ bs) → ⊥)) (ap (λ ps. binders_all (patterns ps)) c.deref.ensures.value ∙ sym (constructor_binders c.args.pattern.now c.in-Constructor.ty c.in-Constructor.data c.in-Constructor.number c.in-Constructor.name c.in-Constructor.place c.in-Constructor.patterns c.in-Constructor.is)) c.owns_patterns.ensures.other
