use Rattle.std.proofs.Common.{◌∙◌, refl, List}
use Rattle.fip_base.specs.CoreView.{argument, arguments}
use Rattle.fip_base.specs.declared.core_form.Argument.{Argument}
use Rattle.data_types.specs.Faults.{argument_faults, arguments_faults}
use Rattle.data_types.proofs.Repeats.{walk_step}
use Rattle.data_types.proofs.bodies.+arguments.Goals as goal

pub check_arguments-loop-argument-preserved : goal.check_arguments-loop-argument-preserved
check_arguments-loop-argument-preserved t c =
    walk_step (λ a. argument_faults c.args.scope.now (argument a)) (λ as'. arguments_faults c.args.scope.now (arguments as')) (λ (x : Argument) (xs : List Argument). refl) c.args.arguments.now c.loop-argument.argument-index c.argument-item.result c.loop-argument.least c.check_argument.new.least c.loop-argument-test.true c.argument-item.is c.in_ok-check_argument.ensures
    ∙ c.loop-argument.invariant
