use Rattle.std.proofs.Common.{◌≡◌, ◌+◌, ◌≤◌, sym, ap, drop, length, arith, nat_eq}
use Rattle.std.proofs.lemmas.Bool.Decides.{nat_tests}
use Rattle.fip_trees.specs.TreeView.{program, arguments}
use Rattle.fip_rules.specs.World.{world}
use Rattle.derivation_check.specs.Places.{parts}
use Rattle.derivation_check.specs.ScopeView.{frames, scope_of}
use Rattle.derivation_check.proofs.Passing.{passed_up, passed_down, passed_short, passed_over}
use Rattle.derivation_check.proofs.values.Walk.all_passed.Goals as goal

pub returns-in-None-clause-complete : goal.returns-in-None-clause-complete
returns-in-None-clause-complete c h = absurd (passed_short (world (program c.args.self.now.program.now) c.args.self.now.kind) (scope_of (frames c.args.scope.now)) c.args.next c.loop-argument.argument-index c.loop-argument.place c.args.params.now c.args.arguments.now c.argument-item.result (parts c.args.self.now.nodes.now c.loop-argument.rest.place c.loop-argument.rest.left) c.loop-argument.invariant.place c.in-None.ensures.none c.loop-argument-test.true c.argument-item.is (c.loop-argument.invariant.down h))

pub returns-in-None-passed-clause-complete : goal.returns-in-None-passed-clause-complete
returns-in-None-passed-clause-complete c h = absurd (c.in-None-passed.ensures.complete (drop (c.loop-argument.argument-index + 1) c.args.params.now) (arguments (drop (c.loop-argument.argument-index + 1) c.args.arguments.now)) (passed_down (world (program c.args.self.now.program.now) c.args.self.now.kind) (scope_of (frames c.args.scope.now)) c.args.next c.loop-argument.argument-index c.loop-argument.place c.args.params.now c.in-Some.param c.args.arguments.now c.argument-item.result (parts c.args.self.now.nodes.now c.loop-argument.rest.place c.loop-argument.rest.left) c.loop-argument.invariant.place c.in-Some.ensures.some c.loop-argument-test.true c.argument-item.is (c.loop-argument.invariant.down h)))

pub loop-argument-preserved : goal.loop-argument-preserved
loop-argument-preserved c = record {
  place = ap (λ k. k + 1) c.loop-argument.invariant.place;
  inside = let l = c.in-Some.ensures.inside in omega arith;
  owned = c.in-Some-passed.ensures.owned;
  up = λ h. c.loop-argument.invariant.up (passed_up (world (program c.args.self.now.program.now) c.args.self.now.kind) (scope_of (frames c.args.scope.now)) c.args.next c.loop-argument.argument-index c.loop-argument.place c.args.params.now c.in-Some.param c.args.arguments.now c.argument-item.result (parts c.args.self.now.nodes.now c.loop-argument.rest.place c.loop-argument.rest.left) (parts c.args.self.now.nodes.now c.in-Some-passed.following.place c.in-Some-passed.following.left) c.loop-argument.invariant.place c.in-Some.ensures.some c.loop-argument-test.true c.argument-item.is c.in-Some-passed.ensures.sound h);
  down = λ h. c.in-Some-passed.ensures.complete (drop (c.loop-argument.argument-index + 1) c.args.params.now) (arguments (drop (c.loop-argument.argument-index + 1) c.args.arguments.now)) (passed_down (world (program c.args.self.now.program.now) c.args.self.now.kind) (scope_of (frames c.args.scope.now)) c.args.next c.loop-argument.argument-index c.loop-argument.place c.args.params.now c.in-Some.param c.args.arguments.now c.argument-item.result (parts c.args.self.now.nodes.now c.loop-argument.rest.place c.loop-argument.rest.left) c.loop-argument.invariant.place c.in-Some.ensures.some c.loop-argument-test.true c.argument-item.is (c.loop-argument.invariant.down h));
}

pub returns-then-place-params-clause-complete : goal.returns-then-place-params-clause-complete
returns-then-place-params-clause-complete c h = let e = (passed_over (world (program c.args.self.now.program.now) c.args.self.now.kind) (scope_of (frames c.args.scope.now)) c.args.next c.loop-argument.argument-index c.loop-argument.place c.loop-argument.rest.place c.loop-argument.rest.left c.args.self.now.nodes.now c.args.params.now c.args.arguments.now c.loop-argument.invariant.place (let a = c.loop-argument.invariant.place in let b = c.loop-argument.invariant.inside in omega arith) c.loop-argument-test.false (c.loop-argument.invariant.down h)).1 in grind (arith, nat_tests)

pub returns-else-place-params-clause-complete : goal.returns-else-place-params-clause-complete
returns-else-place-params-clause-complete c h = let e = (passed_over (world (program c.args.self.now.program.now) c.args.self.now.kind) (scope_of (frames c.args.scope.now)) c.args.next c.loop-argument.argument-index c.loop-argument.place c.loop-argument.rest.place c.loop-argument.rest.left c.args.self.now.nodes.now c.args.params.now c.args.arguments.now c.loop-argument.invariant.place (let a = c.loop-argument.invariant.place in let b = c.loop-argument.invariant.inside in omega arith) c.loop-argument-test.false (c.loop-argument.invariant.down h)).0 in grind (arith, nat_tests)
