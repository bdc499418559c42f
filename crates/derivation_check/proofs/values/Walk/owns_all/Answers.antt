use Rattle.std.proofs.Common.{◌≡◌, ◌+◌, ◌∙◌, sym, ap, arith, drop, ◌≤◌, length}
use Rattle.fip_trees.specs.TreeView.{program}
use Rattle.fip_rules.specs.World.{world}
use Rattle.derivation_check.specs.Calculus.{numbers}
use Rattle.derivation_check.proofs.Numbers.{drop_item, drop_end}
use Rattle.std.proofs.lemmas.Bool.Decides.{nat_tests}
use Rattle.derivation_check.proofs.Owning.{owns_over}
use Rattle.derivation_check.proofs.values.Walk.owns_all.Goals as goal

pub loop-binder-preserved : goal.loop-binder-preserved
loop-binder-preserved c = record {
  next = let a = c.in-Some.ensures.next in let b = c.loop-binder.invariant.next in omega arith;
  up = λ h. c.loop-binder.invariant.up (c.in-Some.ensures.sound (drop (c.loop-binder.binder-index + 1) c.args.binders.now) h ∙ ap (numbers (world (program c.args.self.now.program.now) c.args.self.now.kind) c.loop-binder.here.next) (sym (drop_item c.args.binders.now c.loop-binder.binder-index c.binder-item.result c.binder-item.result c.loop-binder-test.true c.binder-item.is)));
  down = λ h. c.in-Some.ensures.down (drop (c.loop-binder.binder-index + 1) c.args.binders.now) (c.loop-binder.invariant.down h ∙ ap (numbers (world (program c.args.self.now.program.now) c.args.self.now.kind) c.loop-binder.here.next) (drop_item c.args.binders.now c.loop-binder.binder-index c.binder-item.result c.binder-item.result c.loop-binder-test.true c.binder-item.is));
  inside = c.in-Some.ensures.within c.loop-binder.invariant.inside;
}

pub returns-in-None-clause-complete : goal.returns-in-None-clause-complete
returns-in-None-clause-complete c h = absurd (c.in-None.ensures.other (drop (c.loop-binder.binder-index + 1) c.args.binders.now) (c.loop-binder.invariant.down h ∙ ap (numbers (world (program c.args.self.now.program.now) c.args.self.now.kind) c.loop-binder.here.next) (drop_item c.args.binders.now c.loop-binder.binder-index c.binder-item.result c.binder-item.result c.loop-binder-test.true c.binder-item.is)))

pub returns-clause-complete : goal.returns-clause-complete
returns-clause-complete c h = let e = owns_over c.args.owned.now c.loop-binder.here.place (c.loop-binder.invariant.down h ∙ ap (numbers (world (program c.args.self.now.program.now) c.args.self.now.kind) c.loop-binder.here.next) (drop_end c.args.binders.now c.loop-binder.binder-index c.loop-binder-test.false)) c.loop-binder.invariant.inside in grind (arith, nat_tests)
