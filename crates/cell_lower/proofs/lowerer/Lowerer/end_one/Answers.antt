use Rattle.std.proofs.Common.{sym, ap, ◌∙◌}
use Rattle.cell_code.specs.declared.code.Instr.TheVariants as I
use Rattle.lower_parts.specs.lowering_relation.Written.{added}
use Rattle.lower_parts.proofs.Shedding.{sheds_take}
use Rattle.lower_parts.specs.lowering_relation.Known.{Known}
use Rattle.lower_parts.proofs.lower_frame.Accounts.{bare_gone}
use Rattle.lower_parts.proofs.Laying.{laid_take}
use Rattle.cell_lower.proofs.lowerer.Lowerer.end_one.Goals as goal

pub returns-in_ok-add-clause-sheds : goal.returns-in_ok-add-clause-sheds
returns-in_ok-add-clause-sheds c = sheds_take c.args.self.now.frame c.set.new.self c.args.self.now.buffer c.add.new.self c.args.register (c.is_bare.ensures.full c.if-is_bare.true) c.set.ensures.held (c.in_ok-add.ensures.added ∙ ap (λ x. added c.args.self.now.buffer (I.Take c.args.register x)) c.new.ensures.empty)

pub returns-in_ok-add-clause-laid : goal.returns-in_ok-add-clause-laid
returns-in_ok-add-clause-laid c = laid_take c.args.self.now.frame c.set.new.self c.args.self.now.buffer c.add.new.self c.args.register (sym c.is_bare.ensures.bare ∙ c.if-is_bare.true) c.set.ensures.held (c.in_ok-add.ensures.added ∙ ap (λ x. added c.args.self.now.buffer (I.Take c.args.register x)) c.new.ensures.empty)

pub returns-in_ok-add-clause-bare : goal.returns-in_ok-add-clause-bare
returns-in_ok-add-clause-bare c = bare_gone c.args.self.now.frame.held c.set.new.self.held c.args.register (ap (λ (x : Known). x.held) c.set.ensures.held)
