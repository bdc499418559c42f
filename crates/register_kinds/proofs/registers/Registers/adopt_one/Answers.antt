use Rattle.std.proofs.Common.{sym, ap, ◌∙◌}
use Rattle.kind_domain.specs.code_rules.Kinds.{is_gone}
use Rattle.register_kinds.proofs.Entered.{set_gone}
use Rattle.register_kinds.proofs.registers.Registers.adopt_one.Goals as goal

pub returns-then-is_gone-2-clause-kinds : goal.returns-then-is_gone-2-clause-kinds
returns-then-is_gone-2-clause-kinds c =
    set_gone c.args.self.now.kinds c.args.register _ (sym c.is_gone.ensures.is ∙ c.if-is_gone.true)
    (ap is_gone (sym c.known.ensures.is) ∙ sym c.is_gone-then-is_gone.ensures.is ∙ c.if-is_gone-2.true)
