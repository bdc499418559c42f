use Rattle.std.proofs.Common.{subst, ap, ◌∙◌}
use Rattle.std.specs.Borrow.{Bor}
use Rattle.fip_trees.specs.TreeView.{instance_of}
use Rattle.lower_parts.specs.lowering_relation.Known.{using}
use Rattle.lower_parts.specs.lowering_relation.LoweredBodies.{handed}
use Rattle.lower_parts.specs.declared.context.Context.{Context}
use Rattle.lower_parts.specs.Writing.{setting, target_of, TakesAll, EndsCall}
use Rattle.lower_parts.proofs.Calling.{calls_at}
use Rattle.std.proofs.Common.{not}
use Rattle.lower_parts.specs.Laying.{EndsLaid}
use Rattle.lower_parts.proofs.Laying.{calls_laid}
use Rattle.cell_lower.proofs.lowerer.Lowerer.call.Goals as goal

pub returns-clause-calls : goal.returns-clause-calls
returns-clause-calls c =
    calls_at (setting c.args.self.now.context.now) c.args.self.now.frame c.hand_over.new.self.frame c.take_credits.new.self.frame c.end_call.new.self.frame c.args.self.now.buffer c.end_call.new.self.buffer c.args.callee c.in_ok-function.function (instance_of c.in_ok-instance.instance.now) c.args.arguments.items c.take_credits.new.registers.items (target_of c.args.target) c.in_ok-function.ensures.numbered c.in_ok-instance.ensures.there
    (c.hand_over.ensures.handed ∙ ap (λ x. using c.args.self.now.frame (handed c.args.self.now.frame.held x c.as_slice-2.result.now)) c.as_slice.ensures.same ∙ ap (λ x. using c.args.self.now.frame (handed c.args.self.now.frame.held (instance_of c.in_ok-instance.instance.now).params x)) c.as_slice-2.ensures.value)
    (subst (λ x. TakesAll c.hand_over.new.self.frame x c.args.arguments.items c.take_credits.new.registers.items c.take_credits.new.self.frame) c.as_slice-3.ensures.value c.in_ok-take_credits.ensures.taken)
    (subst (λ x. EndsCall (setting c.args.self.now.context.now) c.take_credits.new.self.frame c.args.self.now.buffer c.in_ok-function.function x (instance_of c.in_ok-instance.instance.now).results (target_of c.args.target) c.end_call.new.self.frame c.end_call.new.self.buffer) (c.in_ok-arguments.ensures.same ∙ c.as_slice-4.ensures.value)
    (subst (λ x. EndsCall (setting c.args.self.now.context.now) c.take_credits.new.self.frame x c.in_ok-function.function c.in_ok-arguments.arguments (instance_of c.in_ok-instance.instance.now).results (target_of c.args.target) c.end_call.new.self.frame c.end_call.new.self.buffer) (c.in_ok-take_credits.ensures.buffer ∙ c.hand_over.ensures.buffer)
    (subst (λ (x : Bor Context). EndsCall (setting x.now) c.take_credits.new.self.frame c.take_credits.new.self.buffer c.in_ok-function.function c.in_ok-arguments.arguments (instance_of c.in_ok-instance.instance.now).results (target_of c.args.target) c.end_call.new.self.frame c.end_call.new.self.buffer) (c.in_ok-take_credits.ensures.context ∙ c.hand_over.ensures.context) c.in_ok-end_call.ensures.ends)))

pub returns-clause-laid : goal.returns-clause-laid
returns-clause-laid c =
    calls_laid (setting c.args.self.now.context.now) (not c.args.self.now.gives_up) c.args.self.now.frame c.hand_over.new.self.frame c.take_credits.new.self.frame c.end_call.new.self.frame c.args.self.now.buffer c.end_call.new.self.buffer c.args.callee c.in_ok-function.function (instance_of c.in_ok-instance.instance.now) c.args.arguments.items c.take_credits.new.registers.items (target_of c.args.target) c.in_ok-function.ensures.numbered c.in_ok-instance.ensures.there
    (c.hand_over.ensures.handed ∙ ap (λ x. using c.args.self.now.frame (handed c.args.self.now.frame.held x c.as_slice-2.result.now)) c.as_slice.ensures.same ∙ ap (λ x. using c.args.self.now.frame (handed c.args.self.now.frame.held (instance_of c.in_ok-instance.instance.now).params x)) c.as_slice-2.ensures.value)
    (subst (λ x. TakesAll c.hand_over.new.self.frame x c.args.arguments.items c.take_credits.new.registers.items c.take_credits.new.self.frame) c.as_slice-3.ensures.value c.in_ok-take_credits.ensures.taken)
    (subst (λ x. EndsLaid (setting c.args.self.now.context.now) (not c.args.self.now.gives_up) c.take_credits.new.self.frame c.args.self.now.buffer c.in_ok-function.function x (instance_of c.in_ok-instance.instance.now).results (target_of c.args.target) c.end_call.new.self.frame c.end_call.new.self.buffer) (c.in_ok-arguments.ensures.same ∙ c.as_slice-4.ensures.value)
    (subst (λ x. EndsLaid (setting c.args.self.now.context.now) (not c.args.self.now.gives_up) c.take_credits.new.self.frame x c.in_ok-function.function c.in_ok-arguments.arguments (instance_of c.in_ok-instance.instance.now).results (target_of c.args.target) c.end_call.new.self.frame c.end_call.new.self.buffer) (c.in_ok-take_credits.ensures.buffer ∙ c.hand_over.ensures.buffer)
    (subst (λ (x : Bor Context). EndsLaid (setting x.now) (not c.args.self.now.gives_up) c.take_credits.new.self.frame c.take_credits.new.self.buffer c.in_ok-function.function c.in_ok-arguments.arguments (instance_of c.in_ok-instance.instance.now).results (target_of c.args.target) c.end_call.new.self.frame c.end_call.new.self.buffer) (c.in_ok-take_credits.ensures.context ∙ c.hand_over.ensures.context)
    (subst (λ y. EndsLaid (setting c.take_credits.new.self.context.now) (not y) c.take_credits.new.self.frame c.take_credits.new.self.buffer c.in_ok-function.function c.in_ok-arguments.arguments (instance_of c.in_ok-instance.instance.now).results (target_of c.args.target) c.end_call.new.self.frame c.end_call.new.self.buffer) (c.in_ok-take_credits.ensures.gives_up ∙ c.hand_over.ensures.gives_up) c.in_ok-end_call.ensures.laid))))
