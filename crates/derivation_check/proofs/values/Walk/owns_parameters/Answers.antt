use Rattle.std.proofs.Common.{◌≡◌, ◌+◌, ◌∙◌, sym, ap, drop, ◌≤◌, length, arith}
use Rattle.fip_trees.specs.TreeView.{program}
use Rattle.fip_rules.specs.World.{world}
use Rattle.derivation_check.specs.Accepted.{owned_parameters}
use Rattle.derivation_check.proofs.Passing.{drop_got}
use Rattle.std.proofs.lemmas.Bool.Decides.{nat_tests}
use Rattle.derivation_check.proofs.Numbers.{drop_end}
use Rattle.derivation_check.proofs.Lines.{parameters_over}
use Rattle.derivation_check.proofs.values.Walk.owns_parameters.Goals as goal

pub loop-number-preserved : goal.loop-number-preserved
loop-number-preserved c = record {
  up = λ h. c.loop-number.invariant.up (c.in-Some-owns_parameter.ensures.sound (drop (c.loop-number.number + 1) c.args.params.now) h ∙ ap (owned_parameters (world (program c.args.self.now.program.now) c.args.self.now.kind) c.loop-number.number) (sym (drop_got c.args.params.now c.loop-number.number c.in-Some.param c.in-Some.ensures.some)));
  down = λ h. c.in-Some-owns_parameter.ensures.down (drop (c.loop-number.number + 1) c.args.params.now) (c.loop-number.invariant.down h ∙ ap (owned_parameters (world (program c.args.self.now.program.now) c.args.self.now.kind) c.loop-number.number) (drop_got c.args.params.now c.loop-number.number c.in-Some.param c.in-Some.ensures.some));
  inside = c.in-Some-owns_parameter.ensures.within c.loop-number.invariant.inside;
}

pub returns-in-None-owns_parameter-clause-complete : goal.returns-in-None-owns_parameter-clause-complete
returns-in-None-owns_parameter-clause-complete c h = absurd (c.in-None-owns_parameter.ensures.other (drop (c.loop-number.number + 1) c.args.params.now) (c.loop-number.invariant.down h ∙ ap (owned_parameters (world (program c.args.self.now.program.now) c.args.self.now.kind) c.loop-number.number) (drop_got c.args.params.now c.loop-number.number c.in-Some.param c.in-Some.ensures.some)))

pub returns-clause-complete : goal.returns-clause-complete
returns-clause-complete c h = let e = parameters_over c.args.owned.now c.loop-number.place (c.loop-number.invariant.down h ∙ ap (owned_parameters (world (program c.args.self.now.program.now) c.args.self.now.kind) c.loop-number.number) (drop_end c.args.params.now c.loop-number.number c.loop-number-test.false)) c.loop-number.invariant.inside in grind (arith, nat_tests)
