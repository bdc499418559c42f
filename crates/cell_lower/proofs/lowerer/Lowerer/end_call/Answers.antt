use Rattle.std.proofs.Common.{rules, ◌≡◌, subst, sym, ap, ◌∙◌}
use Rattle.cell_code.specs.declared.code.Instr.TheVariants as I
use Rattle.lower_parts.specs.lowering_relation.Known.{using}
use Rattle.lower_parts.specs.lowering_relation.LoweredBodies.{received}
use Rattle.lower_parts.specs.lowering_relation.Written.{added}
use Rattle.lower_parts.specs.Writing.{setting, target_of, EndsCall}
use Rattle.lower_parts.proofs.Calling.{ends_tail, ends_call}
use Rattle.std.proofs.Common.{not}
use Rattle.lower_parts.specs.Laying.{AllGone, EndsLaid, GivesUpLaid}
use Rattle.lower_parts.proofs.Laying.{ends_laid_tail, ends_laid_call}
use Rattle.cell_lower.proofs.lowerer.Lowerer.end_call.Goals as goal

pub returns-in_ok-add-in-Return-clause-ends : goal.returns-in_ok-add-in-Return-clause-ends
returns-in_ok-add-in-Return-clause-ends c = subst (λ x. EndsCall (setting c.args.self.now.context.now) c.args.self.now.frame c.args.self.now.buffer c.args.function c.args.arguments c.args.instance.now.results (target_of x) c.give_up_all.new.self.frame c.add.new.self) (sym c.in-Return.is) (ends_tail (setting c.args.self.now.context.now) c.args.self.now.frame c.end_bare.new.self.frame c.give_up_all.new.self.frame c.args.self.now.buffer c.end_bare.new.self.buffer c.give_up_all.new.self.buffer c.add.new.self c.args.function c.args.arguments c.args.instance.now.results c.in_ok-end_bare-in-Return.ensures.given_up c.in_ok-give_up_all-in-Return.ensures.given_up c.in_ok-add-in-Return.ensures.added c.in_ok-end_bare-in-Return.ensures.sheds c.in_ok-give_up_all-in-Return.ensures.sheds)

pub returns-in_ok-add-in-Into-clause-ends : goal.returns-in_ok-add-in-Into-clause-ends
returns-in_ok-add-in-Into-clause-ends c =
    let seen : c.arguments-in-Into.inside.numbers.items ≡ c.args.arguments = search rules in
    subst (λ x. EndsCall (setting c.args.self.now.context.now) c.args.self.now.frame c.args.self.now.buffer c.args.function c.args.arguments c.args.instance.now.results (target_of x) c.receive.new.self.frame c.receive.new.self.buffer) (sym c.in-Into.is)
    (ends_call (setting c.args.self.now.context.now) c.args.self.now.frame c.receive.new.self.frame c.args.self.now.buffer c.receive.new.self.buffer c.args.function c.args.arguments c.args.instance.now.results c.in-Into.destinations.now
    (c.receive.ensures.buffer ∙ c.in_ok-add-in-Into.ensures.added ∙ ap (λ x. added c.args.self.now.buffer (I.Call c.args.function x c.in_ok-of-in-Into.field-0)) seen ∙ ap (λ x. added c.args.self.now.buffer (I.Call c.args.function c.args.arguments x)) c.in_ok-of-in-Into.ensures.same)
    (c.receive.ensures.received ∙ ap (λ x. using c.args.self.now.frame (received (setting c.args.self.now.context.now) c.args.self.now.frame.held x c.in-Into.destinations.now)) c.as_slice.ensures.same))

pub returns-in_ok-add-in-Return-clause-laid : goal.returns-in_ok-add-in-Return-clause-laid
returns-in_ok-add-in-Return-clause-laid c =
    subst (λ x. EndsLaid (setting c.args.self.now.context.now) (not c.args.self.now.gives_up) c.args.self.now.frame c.args.self.now.buffer c.args.function c.args.arguments c.args.instance.now.results (target_of x) c.give_up_all.new.self.frame c.add.new.self) (sym c.in-Return.is)
    (ends_laid_tail (setting c.args.self.now.context.now) (not c.args.self.now.gives_up) c.args.self.now.frame c.end_bare.new.self.frame c.give_up_all.new.self.frame c.args.self.now.buffer c.end_bare.new.self.buffer c.give_up_all.new.self.buffer c.add.new.self c.args.function c.args.arguments c.args.instance.now.results
    c.in_ok-end_bare-in-Return.ensures.laid c.in_ok-end_bare-in-Return.ensures.bares
    (subst (λ b. GivesUpLaid (not b) c.end_bare.new.self.frame c.end_bare.new.self.buffer c.give_up_all.new.self.frame c.give_up_all.new.self.buffer) c.in_ok-end_bare-in-Return.ensures.gives_up c.in_ok-give_up_all-in-Return.ensures.laid)
    (subst (λ b. AllGone (not b) c.end_bare.new.self.frame c.give_up_all.new.self.frame) c.in_ok-end_bare-in-Return.ensures.gives_up c.in_ok-give_up_all-in-Return.ensures.gone)
    c.in_ok-add-in-Return.ensures.added)

pub returns-in_ok-add-in-Into-clause-laid : goal.returns-in_ok-add-in-Into-clause-laid
returns-in_ok-add-in-Into-clause-laid c =
    let seen : c.arguments-in-Into.inside.numbers.items ≡ c.args.arguments = search rules in
    subst (λ x. EndsLaid (setting c.args.self.now.context.now) (not c.args.self.now.gives_up) c.args.self.now.frame c.args.self.now.buffer c.args.function c.args.arguments c.args.instance.now.results (target_of x) c.receive.new.self.frame c.receive.new.self.buffer) (sym c.in-Into.is)
    (ends_laid_call (setting c.args.self.now.context.now) (not c.args.self.now.gives_up) c.args.self.now.frame c.receive.new.self.frame c.args.self.now.buffer c.receive.new.self.buffer c.args.function c.args.arguments c.args.instance.now.results c.in-Into.destinations.now
    (c.receive.ensures.buffer ∙ c.in_ok-add-in-Into.ensures.added ∙ ap (λ x. added c.args.self.now.buffer (I.Call c.args.function x c.in_ok-of-in-Into.field-0)) seen ∙ ap (λ x. added c.args.self.now.buffer (I.Call c.args.function c.args.arguments x)) c.in_ok-of-in-Into.ensures.same)
    (c.receive.ensures.received ∙ ap (λ x. using c.args.self.now.frame (received (setting c.args.self.now.context.now) c.args.self.now.frame.held x c.in-Into.destinations.now)) c.as_slice.ensures.same))
