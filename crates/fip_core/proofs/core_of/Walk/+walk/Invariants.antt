use Rattle.std.proofs.Common.{◌≡◌, ◌++◌, map, take, length, []}
use Rattle.std.specs.Vec.Iter.{into_iter_items}
use Rattle.fip_base.specs.fip_language.CoreForm as form
use Rattle.fip_base.specs.CoreView as core
use Rattle.fip_base.specs.SurfaceView as surface
use Rattle.fip_base.specs.declared.surface.Block.{out-Block}
use Rattle.fip_core.specs.Walk.{bindings, waiting, waits, clauses_before}
use Rattle.fip_core.proofs.core_of.Walk.+walk.Given as goal

abbrev pub invariant-whole-loop-step : goal.invariant-whole-loop-step
invariant-whole-loop-step l =
    let b = waits l.initial.self.scope l.initial.self.next (surface.left_by (map surface.action l.yielded) []) in
    record {
      last : l.last ≡ l.initial.last;
      steps : l.yielded ++ into_iter_items l.step-iterator ≡ into_iter_items l.initial.step-iterator;
      stack : waiting l.stack.items ≡ b.arguments;
      lets : bindings l.out.items ≡ bindings l.initial.out.items ++ b.lets;
      next : l.self.next ≡ b.next;
      scope : l.self.scope ≡ l.initial.self.scope;
    }

abbrev pub invariant-parts-loop-e : goal.invariant-parts-loop-e
invariant-parts-loop-e l =
    let first = form.parts l.initial.self.scope l.initial.self.next (surface.expressions (into_iter_items l.initial.e-iterator)) in
    let rest = form.parts l.initial.self.scope l.self.next (surface.expressions (into_iter_items l.e-iterator)) in
    record {
      given : map core.argument l.arguments.items ++ rest.arguments ≡ first.arguments;
      lets : bindings l.out.items ++ rest.lets ≡ bindings l.initial.out.items ++ first.lets;
      next : rest.next ≡ first.next;
      scope : l.self.scope ≡ l.initial.self.scope;
    }

abbrev pub invariant-block-loop-l : goal.invariant-block-loop-l
invariant-block-loop-l l =
    let first = form.contents l.initial.self.scope l.initial.self.next (surface.block l.fn.block) in
    let rest = form.contents l.self.scope l.self.next (surface.block_of (map surface.let_part (into_iter_items l.l-iterator)) (surface.expression (out-Block l.fn.block).last)) in
    record {
      given : rest.expression ≡ first.expression;
      lets : bindings l.bindings.items ++ rest.lets ≡ first.lets;
      next : rest.next ≡ first.next;
      scope : take (length l.initial.self.scope) l.self.scope ≡ l.initial.self.scope;
    }

abbrev pub invariant-clauses-loop-c : goal.invariant-clauses-loop-c
invariant-clauses-loop-c l =
    let first = form.cases l.initial.self.scope l.initial.self.next (surface.clauses (into_iter_items l.initial.c-iterator)) in
    let rest = form.cases l.initial.self.scope l.self.next (surface.clauses (into_iter_items l.c-iterator)) in
    record {
      given : clauses_before (map core.clause l.clauses.items) rest.clauses ≡ first.clauses;
      next : rest.next ≡ first.next;
      scope : l.self.scope ≡ l.initial.self.scope;
    }
