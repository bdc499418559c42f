use Rattle.std.proofs.Common.{length, arith, ◌≡◌, ◌<◌, ◌≤◌, refl, sym, ap, subst, List}
use Rattle.fip_trees.specs.TreeView.{program, instance_of}
use Rattle.fip_rules.specs.World.{world}
use Rattle.derivation_check.specs.Places.{at}
use Rattle.derivation_check.specs.ScopeView.{frames, scope_of}
use Rattle.derivation_check.proofs.Lines.{function_made, start_variables, start_credits, function_body, most_numbered}
use Rattle.fip_base.specs.declared.plain.Param.{Param}
use Rattle.derivation_check.specs.Owned.{IsOwned}
use Rattle.derivation_check.specs.Scopes.{AreNumbered}
use Rattle.derivation_check.proofs.values.Walk.function.Goals.{then-len-count-via-then-len-count, then-len-count-via-else-len-count+then-count-gt4294967296}
use Rattle.derivation_check.proofs.values.Walk.function.Goals as goal

pub are_marked-requires : goal.are_marked-requires
are_marked-requires c = c.credits_at.ensures.rise (length c.as_slice-params.result.now) (c.is_owned.ensures.sound c.if-not-is_owned.false)

pub returns-in-Some : goal.returns-in-Some
returns-in-Some c = record {
  derived = λ h. function_made (world (program c.args.self.now.program.now) c.args.self.now.kind) (instance_of c.args.instance.now) (at c.args.self.now.nodes.now 0) c.as_slice-params.result.now c.deref.result.now c.deref-2.result.now c.variables_at.result.now c.credits_at.result.now (scope_of (frames c.header-scope.result))
      c.as_slice-params.ensures.same c.deref.ensures.value c.deref-2.ensures.value
      (let a = c.if-len-count.false in let b = c.len.ensures in let e = c.deref.ensures.len in omega arith)
      (c.are_numbered.ensures.sound c.if-not-are_numbered.false) (c.is_owned.ensures.sound c.if-not-is_owned.false)
      c.variables_at.ensures.counted c.credits_at.ensures.counted (c.owns_parameters.ensures.sound c.if-not-owns_parameters.false) (c.are_marked.ensures.sound c.if-not-are_marked.false)
      c.header-scope.ensures.scope c.in-Some.ensures.sound;
  complete = λ h. refl;
}

pub returns-then-len-count-clause-complete : goal.returns-then-len-count-clause-complete
returns-then-len-count-clause-complete c h =
    let a = h.0 in
    let b = most_numbered 0 0 (instance_of c.args.instance.now).binders h.1 (omega arith) in
    let x = ap length c.as_slice-params.ensures.same in
    let z = c.len.ensures in
    let o = c.args.instance.now.binders.ok.0 in
    elim c.then-len-count.branch [
      | then-len-count-via-then-len-count w ↦ absurd (let y = w.if-len-count.true in omega arith)
      | then-len-count-via-else-len-count+then-count-gt4294967296 w ↦ absurd (let y = w.if-count-gt4294967296.true in omega arith)
    ]

pub returns-then-not-are_numbered-clause-complete : goal.returns-then-not-are_numbered-clause-complete
returns-then-not-are_numbered-clause-complete c h =
    let g = c.are_numbered.ensures.complete (subst (AreNumbered 0 0) (sym c.deref.ensures.value) h.1) in
    let u = c.if-not-are_numbered.true in cc

pub returns-then-not-is_owned-clause-complete : goal.returns-then-not-is_owned-clause-complete
returns-then-not-is_owned-clause-complete c h =
    let g = c.is_owned.ensures.complete (subst (λ (qs : List Param). IsOwned (length qs) (at c.args.self.now.nodes.now 0)) (sym c.as_slice-params.ensures.same) h.2) in
    let u = c.if-not-is_owned.true in cc

pub returns-then-not-owns_parameters-clause-complete : goal.returns-then-not-owns_parameters-clause-complete
returns-then-not-owns_parameters-clause-complete c h =
    let g = c.owns_parameters.ensures.complete (start_variables (world (program c.args.self.now.program.now) c.args.self.now.kind) (instance_of c.args.instance.now) (at c.args.self.now.nodes.now 0) c.as_slice-params.result.now c.variables_at.result.now c.as_slice-params.ensures.same c.variables_at.ensures.counted (c.variables_at.ensures.rise (length c.as_slice-params.result.now) (c.is_owned.ensures.sound c.if-not-is_owned.false)) h.3) in
    let u = c.if-not-owns_parameters.true in cc

pub returns-then-not-are_marked-clause-complete : goal.returns-then-not-are_marked-clause-complete
returns-then-not-are_marked-clause-complete c h =
    let g = c.are_marked.ensures.complete (start_credits (world (program c.args.self.now.program.now) c.args.self.now.kind) (instance_of c.args.instance.now) (at c.args.self.now.nodes.now 0) c.deref-2.result.now c.credits_at.result.now c.deref-2.ensures.value c.credits_at.ensures.counted h.3) in
    let u = c.if-not-are_marked.true in cc

pub returns-in-None-clause-complete : goal.returns-in-None-clause-complete
returns-in-None-clause-complete c h = absurd (c.in-None.ensures.other (function_body (world (program c.args.self.now.program.now) c.args.self.now.kind) (instance_of c.args.instance.now) (at c.args.self.now.nodes.now 0) c.as_slice-params.result.now (scope_of (frames c.header-scope.result)) c.as_slice-params.ensures.same c.header-scope.ensures.scope h))
