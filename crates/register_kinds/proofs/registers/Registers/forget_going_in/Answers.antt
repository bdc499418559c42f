use Rattle.std.proofs.Common.{sym, ◌∙◌, ap}
use Rattle.kind_domain.specs.code_rules.Changes.{forget, goes}
use Rattle.kind_domain.specs.code_rules.Kinds.{from_of}
use Rattle.register_kinds.proofs.Changed.{set_own, forget_none, forget_kept}
use Rattle.register_kinds.proofs.registers.Registers.forget_going_in.Goals as goal

pub returns-in-None-clause-kinds : goal.returns-in-None-clause-kinds
returns-in-None-clause-kinds c =
    set_own (forget (goes c.args.self.now.kinds c.args.register)) c.args.self.now.kinds c.args.lent
    (forget_none (goes c.args.self.now.kinds c.args.register) _
    (ap from_of (sym c.known-known.ensures.is) ∙ sym c.from.ensures.is ∙ c.in-None.is))

pub returns-else-is_going-clause-kinds : goal.returns-else-is_going-clause-kinds
returns-else-is_going-clause-kinds c =
    set_own (forget (goes c.args.self.now.kinds c.args.register)) c.args.self.now.kinds c.args.lent
    (forget_kept (goes c.args.self.now.kinds c.args.register) _ c.in-Some.from
    (ap from_of (sym c.known-known.ensures.is) ∙ sym c.from.ensures.is ∙ c.in-Some.is)
    (sym c.is_going.ensures.is ∙ c.if-is_going.false))
