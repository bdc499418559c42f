use Rattle.std.proofs.Common.{rules, ◌≡◌, ap, ◌∙◌, arith, length, Some}
use Rattle.cell_code.specs.declared.code.Instr.TheVariants as I
use Rattle.lower_parts.specs.lowering_relation.declared.held.Held.TheVariants as H
use Rattle.lower_parts.specs.lowering_relation.Known.{holding}
use Rattle.lower_parts.specs.lowering_relation.Written.{added}
use Rattle.lower_parts.specs.lower_frame.Frames.{Takes}
use Rattle.lower_parts.specs.Writing.{setting}
use Rattle.lower_parts.proofs.Folding.{nonempty}
use Rattle.lower_parts.proofs.Writing.{builds_fields}
use Rattle.cell_lower.proofs.lowerer.Lowerer.construct.Goals as goal

pub returns-clause-builds : goal.returns-clause-builds
returns-clause-builds c =
    let some : length c.args.fields.now ≡ 0 → ⊥ = (λ z. let lt = nonempty (length c.args.fields.now) c.is_empty.result c.is_empty.ensures c.if-is_empty.false in absurd (omega (arith, z, lt))) in
    let takes : Takes c.args.self.now.frame (length c.args.fields.now) c.in_ok-register.register c.take_credit.new.self = search rules in
    builds_fields (setting c.args.self.now.context.now) c.args.self.now.frame c.take_credit.new.self c.set.new.self c.args.self.now.buffer c.use_up_all.new.self.buffer c.args.ty c.args.constructor c.args.fields.now c.in_ok-register.register some takes
    (c.set.ensures.held ∙ ap (λ x. holding x c.in_ok-register.register (H.Owned c.args.ty (Some c.args.constructor))) c.use_up_all.ensures.used)
    (c.use_up_all.ensures.buffer ∙ c.in_ok-add.ensures.added ∙ ap (λ x. added c.args.self.now.buffer (I.Put c.in_ok-register.register c.args.ty c.args.constructor x)) c.in_ok-of.ensures.same)
