use Rattle.std.proofs.Common.{sym, ◌∙◌, ap}
use Rattle.kind_domain.specs.code_rules.Kinds.{from_of}
use Rattle.kind_domain.specs.Leading.{names}
use Rattle.register_kinds.specs.Steps.{forgets}
use Rattle.register_kinds.proofs.Changed.{set_own, forgets_unnamed}
use Rattle.register_kinds.proofs.registers.Registers.forget_in.Goals as goal

pub returns-else-came_from-clause-kinds : goal.returns-else-came_from-clause-kinds
returns-else-came_from-clause-kinds c =
    set_own (forgets c.args.register) c.args.self.now.kinds c.args.lent
    (forgets_unnamed c.args.register _
    (ap (λ k. names c.args.register (from_of k)) (sym c.known-known.ensures.is) ∙ sym c.came_from.ensures.is
    ∙ c.if-came_from.false))
