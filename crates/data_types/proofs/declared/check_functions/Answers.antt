use Rattle.std.proofs.Common.{◌∙◌, refl, List, map}
use Rattle.fip_base.specs.CoreView.{function}
use Rattle.fip_base.specs.declared.core_form.Function.{Function}
use Rattle.data_types.specs.Faults.{function_faults, all_function_faults}
use Rattle.data_types.proofs.Repeats.{walk_step}
use Rattle.data_types.proofs.declared.check_functions.Goals as goal

pub loop-function-preserved : goal.loop-function-preserved
loop-function-preserved c =
    walk_step (λ f. function_faults c.args.names.now (function f)) (λ fs. all_function_faults c.args.names.now (map function fs)) (λ (x : Function) (xs : List Function). refl) c.args.functions.now c.loop-function.function-index c.function-item.result c.loop-function.least c.check_function.new.least c.loop-function-test.true c.function-item.is c.in_ok-check_function.ensures
    ∙ c.loop-function.invariant
