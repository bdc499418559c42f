use Rattle.std.proofs.Common.{◌∙◌, refl, List, option_map}
use Rattle.fip_base.specs.CoreView.{binders, written}
use Rattle.fip_base.specs.declared.core_form.Binder.{Binder}
use Rattle.data_types.specs.Faults.{annotation_faults, binders_faults}
use Rattle.data_types.proofs.Repeats.{walk_step}
use Rattle.data_types.proofs.bodies.check_binders.Goals as goal

pub loop-binder-preserved : goal.loop-binder-preserved
loop-binder-preserved c =
    walk_step (λ (b : Binder). annotation_faults c.args.scope.now (option_map written b.annotation)) (λ bs. binders_faults c.args.scope.now (binders bs)) (λ (x : Binder) (xs : List Binder). refl) c.args.binders.now c.loop-binder.binder-index c.binder-item.result c.loop-binder.least c.check_annotation.new.least c.loop-binder-test.true c.binder-item.is c.in_ok-check_annotation.ensures
    ∙ c.loop-binder.invariant
