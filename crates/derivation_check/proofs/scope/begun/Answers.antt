use Rattle.std.proofs.Common.{◌≡◌, ◌<◌, ◌≤◌, ◌+◌, ◌-◌, ◌/◌, ℕ, subst, arith, map, length, take}
use Rattle.fip_trees.specs.TreeView.{binding}
use Rattle.derivation_check.specs.Scopes.{known}
use Rattle.derivation_check.specs.ScopeView.{bindings}
use Rattle.derivation_check.proofs.Frames.{starts_at, begun_after, begun_before}
use Rattle.derivation_check.proofs.scope.begun.Goals as goal

pub first_of-requires : goal.first_of-requires
first_of-requires c = (starts_at c.args.core c.args.next c.args.bindings.now (c.loop-low.low + (c.loop-low.high - c.loop-low.low) / 2) c.binders_of.result.now c.requires.numbered c.requires.order (let t = c.loop-low-test.true in let i = c.loop-low.invariant.inside in omega arith) c.binders_of.ensures.binders).some

pub loop-low-preserved-then-first_of-binder : goal.loop-low-preserved-then-first_of-binder
loop-low-preserved-then-first_of-binder c = record {
  order = let t = c.loop-low-test.true in omega arith;
  inside = c.loop-low.invariant.inside;
  searched = c.loop-low.invariant.searched;
  before = λ z s.
      subst (λ i. known (bindings c.args.next (take i (map binding c.args.bindings.now)) s).variables c.args.binder ≡ known s.variables c.args.binder)
      (let e : (c.loop-low.low + (c.loop-low.high - c.loop-low.low) / 2) ≡ (c.loop-low.low + (c.loop-low.high - c.loop-low.low) / 2) + 1 - 1 = omega arith in e)
      (begun_before c.args.core c.args.next c.args.bindings.now (c.loop-low.low + (c.loop-low.high - c.loop-low.low) / 2) c.args.binder c.first_of.result c.binders_of.result.now c.requires.numbered c.requires.order (let t = c.loop-low-test.true in let i = c.loop-low.invariant.inside in omega arith) c.binders_of.ensures.binders c.first_of.ensures.first c.if-first_of-binder.true s);
}

pub loop-low-preserved : goal.loop-low-preserved
loop-low-preserved c = record {
  order = let t = c.loop-low-test.true in omega arith;
  inside = let t = c.loop-low-test.true in let i = c.loop-low.invariant.inside in omega arith;
  searched = λ s. begun_after c.args.core c.args.next c.args.bindings.now (c.loop-low.low + (c.loop-low.high - c.loop-low.low) / 2) c.args.binder c.first_of.result c.binders_of.result.now c.requires.numbered c.requires.order (let t = c.loop-low-test.true in let i = c.loop-low.invariant.inside in omega arith) c.binders_of.ensures.binders c.first_of.ensures.first (let z = c.if-first_of-binder.false in omega arith) s;
  before = c.loop-low.invariant.before;
}
