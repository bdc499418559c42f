use Rattle.std.proofs.Common.{sym, ◌∙◌, ap}
use Rattle.kind_domain.specs.code_rules.Kinds.{is_lent_of}
use Rattle.register_kinds.specs.Steps.{lose}
use Rattle.register_kinds.proofs.Changed.{set_own, lose_kept}
use Rattle.register_kinds.proofs.registers.Registers.lose_in.Goals as goal

pub returns-else-is_lent_of-clause-kinds : goal.returns-else-is_lent_of-clause-kinds
returns-else-is_lent_of-clause-kinds c =
    set_own (lose c.args.register) c.args.self.now.kinds c.args.lent
    (lose_kept c.args.register _
    (ap (is_lent_of c.args.register) (sym c.known.ensures.is) ∙ sym c.is_lent_of.ensures.is ∙ c.if-is_lent_of.false))
