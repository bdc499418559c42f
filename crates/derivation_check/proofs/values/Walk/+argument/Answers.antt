use Rattle.std.proofs.Common.{◌≡◌, ◌-◌, arith, refl, length, List, ℕ}
use Rattle.std.proofs.lemmas.Bool.Decides.{nat_tests}
use Rattle.fip_trees.specs.TreeView.{program, argument, arguments}
use Rattle.fip_rules.specs.World.{world, is_fip}
use Rattle.ownership_calculus.specs.Terms.{paid}
use Rattle.derivation_trees.specs.declared.derivation.RuleName.TheVariants as R
use Rattle.derivation_trees.specs.declared.derivation.Credit as D
use Rattle.derivation_trees.specs.Trees.{Trees, Branch}
use Rattle.derivation_check.specs.Owned.{Under, Splits}
use Rattle.derivation_check.specs.Places.{at, parts, following}
use Rattle.derivation_check.specs.ScopeView.{frames, scope_of}
use Rattle.derivation_check.specs.Calculus.{DerivesValues}
use Rattle.derivation_check.proofs.Rows.{owned_first}
use Rattle.derivation_check.proofs.Splitting.{splits_sound, splits_complete, values_first, values_more, values_over, builds_reuse, builds_splits}
use Rattle.derivation_check.proofs.values.Walk.+argument.Goals as goal

pub arguments-returns-then-not-argument-clause-complete : goal.arguments-returns-then-not-argument-clause-complete
arguments-returns-then-not-argument-clause-complete t c h =
    let f = values_first (world (program c.args.self.now.program.now) c.args.self.now.kind) (scope_of (frames c.args.scope.now)).variables c.args.next c.args.self.now.nodes.now c.loop-argument.place (following c.args.self.now.nodes.now c.loop-argument.place) c.loop-argument.left c.loop-argument.argument-index c.args.arguments.now c.argument-item.result (let z = c.if-left-eq0.false in omega arith) refl c.loop-argument-test.true c.argument-item.is (c.loop-argument.invariant.down h) in
    let g = c.argument.ensures.complete f.0 in let u = c.if-not-argument.true in cc

pub arguments-loop-argument-preserved : goal.arguments-loop-argument-preserved
arguments-loop-argument-preserved t c = record {
  owned = (owned_first c.args.self.now.nodes.now c.args.next c.loop-argument.place c.following-place.result c.loop-argument.left (let z = c.if-left-eq0.false in omega arith) (c.following-place.ensures.row (c.loop-argument.left - 1)) c.loop-argument.invariant.owned).1;
  up = λ h. c.loop-argument.invariant.up (values_more (world (program c.args.self.now.program.now) c.args.self.now.kind) (scope_of (frames c.args.scope.now)).variables c.args.next c.args.self.now.nodes.now c.loop-argument.place c.following-place.result c.loop-argument.left c.loop-argument.argument-index c.args.arguments.now c.argument-item.result (let z = c.if-left-eq0.false in omega arith) (c.following-place.ensures.row (c.loop-argument.left - 1)) c.loop-argument-test.true c.argument-item.is (c.argument.ensures.sound c.if-not-argument.false) h);
  down = λ h. (values_first (world (program c.args.self.now.program.now) c.args.self.now.kind) (scope_of (frames c.args.scope.now)).variables c.args.next c.args.self.now.nodes.now c.loop-argument.place c.following-place.result c.loop-argument.left c.loop-argument.argument-index c.args.arguments.now c.argument-item.result (let z = c.if-left-eq0.false in omega arith) (c.following-place.ensures.row (c.loop-argument.left - 1)) c.loop-argument-test.true c.argument-item.is (c.loop-argument.invariant.down h)).1;
}

pub arguments-returns-clause-complete : goal.arguments-returns-clause-complete
arguments-returns-clause-complete t c h = let e = values_over (world (program c.args.self.now.program.now) c.args.self.now.kind) (scope_of (frames c.args.scope.now)).variables c.args.next c.args.self.now.nodes.now c.loop-argument.place c.loop-argument.left c.loop-argument.argument-index c.args.arguments.now c.loop-argument-test.false (c.loop-argument.invariant.down h) in grind (arith, nat_tests)

pub constructor-returns-then-not-splits_paid-clause-complete : goal.constructor-returns-then-not-splits_paid-clause-complete
constructor-returns-then-not-splits_paid-clause-complete t c h =
    let s = builds_splits (world (program c.args.self.now.program.now) c.args.self.now.kind) c.args.next (length c.args.arguments.now) c.args.arguments.now (λ ts. DerivesValues (world (program c.args.self.now.program.now) c.args.self.now.kind) (scope_of (frames c.args.scope.now)).variables c.args.next ts (arguments c.args.arguments.now)) (at c.args.self.now.nodes.now c.args.place) refl (λ z. let y = c.if-arguments-eq0.false in absurd (omega arith)) h in
    let g = (splits_complete (is_fip c.args.self.now.kind) c.args.next R.Reuse (paid (length c.args.arguments.now)) (λ ts. DerivesValues (world (program c.args.self.now.program.now) c.args.self.now.kind) (scope_of (frames c.args.scope.now)).variables c.args.next ts (arguments c.args.arguments.now)) (at c.args.self.now.nodes.now c.args.place) c.args.self.now.nodes.now c.in-Some.found.first c.in-Some.found.node.now c.in-Some.ensures.only s).0 in
    let k = c.splits_paid.ensures.complete g in let u = c.if-not-splits_paid.true in cc

pub constructor-returns-in-None-clause-complete : goal.constructor-returns-in-None-clause-complete
constructor-returns-in-None-clause-complete t c h =
    let s = builds_splits (world (program c.args.self.now.program.now) c.args.self.now.kind) c.args.next (length c.args.arguments.now) c.args.arguments.now (λ ts. DerivesValues (world (program c.args.self.now.program.now) c.args.self.now.kind) (scope_of (frames c.args.scope.now)).variables c.args.next ts (arguments c.args.arguments.now)) (at c.args.self.now.nodes.now c.args.place) refl (λ z. let y = c.if-arguments-eq0.false in absurd (omega arith)) h in
    absurd (c.in-None.ensures.only s.0 s.1 s.2 s.3)

pub constructor-returns-else-not-splits_paid-clause-sound : goal.constructor-returns-else-not-splits_paid-clause-sound
constructor-returns-else-not-splits_paid-clause-sound t c h =
    builds_reuse (world (program c.args.self.now.program.now) c.args.self.now.kind) c.args.next (length c.args.arguments.now) c.args.arguments.now (λ ts. DerivesValues (world (program c.args.self.now.program.now) c.args.self.now.kind) (scope_of (frames c.args.scope.now)).variables c.args.next ts (arguments c.args.arguments.now)) (at c.args.self.now.nodes.now c.args.place) refl (λ z. let y = c.if-arguments-eq0.false in absurd (omega arith))
    (splits_sound (is_fip c.args.self.now.kind) c.args.next R.Reuse (paid (length c.args.arguments.now)) (λ ts. DerivesValues (world (program c.args.self.now.program.now) c.args.self.now.kind) (scope_of (frames c.args.scope.now)).variables c.args.next ts (arguments c.args.arguments.now)) (at c.args.self.now.nodes.now c.args.place) c.args.self.now.nodes.now c.in-Some.found.first c.in-Some.found.node.now c.in-Some.ensures.found.0 c.in-Some.ensures.found.2 (c.splits_paid.ensures.sound c.if-not-splits_paid.false) (c.arguments.ensures.sound h))

pub constructor-returns-else-not-splits_paid-clause-complete : goal.constructor-returns-else-not-splits_paid-clause-complete
constructor-returns-else-not-splits_paid-clause-complete t c h =
    let s = builds_splits (world (program c.args.self.now.program.now) c.args.self.now.kind) c.args.next (length c.args.arguments.now) c.args.arguments.now (λ ts. DerivesValues (world (program c.args.self.now.program.now) c.args.self.now.kind) (scope_of (frames c.args.scope.now)).variables c.args.next ts (arguments c.args.arguments.now)) (at c.args.self.now.nodes.now c.args.place) refl (λ z. let y = c.if-arguments-eq0.false in absurd (omega arith)) h in
    c.arguments.ensures.complete (splits_complete (is_fip c.args.self.now.kind) c.args.next R.Reuse (paid (length c.args.arguments.now)) (λ ts. DerivesValues (world (program c.args.self.now.program.now) c.args.self.now.kind) (scope_of (frames c.args.scope.now)).variables c.args.next ts (arguments c.args.arguments.now)) (at c.args.self.now.nodes.now c.args.place) c.args.self.now.nodes.now c.in-Some.found.first c.in-Some.found.node.now c.in-Some.ensures.only s).1
