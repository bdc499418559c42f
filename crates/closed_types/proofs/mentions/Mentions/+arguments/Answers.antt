use Rattle.std.proofs.Common.{[], refl, List}
use Rattle.fip_base.specs.CoreView.{argument, arguments}
use Rattle.fip_base.specs.declared.core_form.Argument.{Argument}
use Rattle.closed_types.specs.MentionsView.{Heard, heard, hears_argument, hears_arguments}
use Rattle.closed_types.specs.DeclaredView.{declared_with}
use Rattle.closed_types.proofs.Hearing.{hear_step}
use Rattle.closed_types.proofs.mentions.Mentions.+arguments.Goals as goal

pub add_arguments-loop-argument-preserved : goal.add_arguments-loop-argument-preserved
add_arguments-loop-argument-preserved t c =
    let s = declared_with c.args.decls.now [] in
    hear_step (λ h x. hears_argument s h (argument x)) (λ h xs. hears_arguments s h (arguments xs)) (λ (h : Heard) (x : Argument) (xs : List Argument). refl) c.args.list.now c.loop-argument.argument-index c.argument-item.result (heard c.loop-argument.self) (heard c.add_argument.new.self) _ c.loop-argument-test.true c.argument-item.is c.in_ok-add_argument.ensures c.loop-argument.invariant
