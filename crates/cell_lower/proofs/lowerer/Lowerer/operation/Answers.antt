use Rattle.std.proofs.Common.{subst, sym, ap, ◌∙◌}
use Rattle.cell_code.specs.declared.code.Instr.TheVariants as I
use Rattle.lower_parts.specs.lowering_relation.declared.held.Held.TheVariants as H
use Rattle.lower_parts.specs.lowering_relation.Known.{holding}
use Rattle.lower_parts.specs.lowering_relation.LoweredBodies.{GoesTo, result_type}
use Rattle.lower_parts.specs.lowering_relation.Written.{added}
use Rattle.lower_parts.specs.Writing.{target_of}
use Rattle.lower_parts.proofs.Calling.{operates}
use Rattle.std.proofs.Common.{not, [], ◌∷◌}
use Rattle.lower_parts.specs.Laying.{GivesLaid}
use Rattle.lower_parts.proofs.Laying.{operates_laid}
use Rattle.lower_parts.specs.lower_frame.Registers.{HasRoom}
use Rattle.cell_lower.proofs.lowerer.Lowerer.operation.Goals as goal

pub returns-clause-operates : goal.returns-clause-operates
returns-clause-operates c =
    operates c.args.self.now.frame c.set.new.self c.give.new.self.frame c.args.self.now.buffer c.add.new.self c.give.new.self.buffer c.args.applied.operator c.args.applied.place c.args.left c.args.right c.in_ok-destination.destination (target_of c.args.target)
    (subst (λ x. GoesTo (target_of c.args.target) c.args.self.now.frame (H.Scalar (result_type c.args.applied.operator)) c.in_ok-destination.destination x) (sym (c.set.ensures.held ∙ ap (λ t. holding c.first_of.new.self.frame c.in_ok-destination.destination (H.Scalar t)) c.result_of-ty.ensures.same)) (c.in_ok-destination.ensures.goes (H.Scalar (result_type c.args.applied.operator))))
    (c.in_ok-add.ensures.added ∙ ap (λ x. added c.first_of.new.self.buffer (I.Arith c.in_ok-destination.destination c.args.applied.operator c.args.left c.args.right x c.in_ok-narrow-2.field-0)) c.in_ok-narrow.ensures.same ∙ ap (λ x. added c.first_of.new.self.buffer (I.Arith c.in_ok-destination.destination c.args.applied.operator c.args.left c.args.right c.args.applied.place.line x)) c.in_ok-narrow-2.ensures.same ∙ ap (λ x. added x (I.Arith c.in_ok-destination.destination c.args.applied.operator c.args.left c.args.right c.args.applied.place.line c.args.applied.place.col)) c.in_ok-destination.ensures.buffer)
    c.in_ok-give.ensures.gives

pub returns-clause-laid : goal.returns-clause-laid
returns-clause-laid c =
    operates_laid (not c.args.self.now.gives_up) c.args.self.now.frame c.set.new.self c.give.new.self.frame c.args.self.now.buffer c.add.new.self c.give.new.self.buffer c.args.applied.operator c.args.applied.place c.args.left c.args.right c.in_ok-destination.destination (target_of c.args.target)
    (subst (λ x. GoesTo (target_of c.args.target) c.args.self.now.frame (H.Scalar (result_type c.args.applied.operator)) c.in_ok-destination.destination x) (sym (c.set.ensures.held ∙ ap (λ t. holding c.first_of.new.self.frame c.in_ok-destination.destination (H.Scalar t)) c.result_of-ty.ensures.same)) (c.in_ok-destination.ensures.goes (H.Scalar (result_type c.args.applied.operator))))
    (subst (HasRoom c.args.self.now.frame) (sym c.set.ensures.held) c.in_ok-destination.ensures.room)
    (c.in_ok-add.ensures.added ∙ ap (λ x. added c.first_of.new.self.buffer (I.Arith c.in_ok-destination.destination c.args.applied.operator c.args.left c.args.right x c.in_ok-narrow-2.field-0)) c.in_ok-narrow.ensures.same ∙ ap (λ x. added c.first_of.new.self.buffer (I.Arith c.in_ok-destination.destination c.args.applied.operator c.args.left c.args.right c.args.applied.place.line x)) c.in_ok-narrow-2.ensures.same ∙ ap (λ x. added x (I.Arith c.in_ok-destination.destination c.args.applied.operator c.args.left c.args.right c.args.applied.place.line c.args.applied.place.col)) c.in_ok-destination.ensures.buffer)
    c.in_ok-give.ensures.gives.extends
    (subst (λ y. GivesLaid (not y) c.set.new.self c.add.new.self (c.in_ok-destination.destination ∷ []) (target_of c.args.target) c.give.new.self.frame c.give.new.self.buffer) c.in_ok-destination.ensures.gives_up c.in_ok-give.ensures.laid)
