use Rattle.std.proofs.Common.{sym, ◌∙◌, ap, length}
use Rattle.kind_domain.specs.code_rules.Kinds.{from_of}
use Rattle.kind_domain.specs.code_rules.Taking.{part, ends}
use Rattle.register_kinds.specs.Takes.{forgotten, seen_at}
use Rattle.register_kinds.proofs.Changed.{forget_none, forget_kept}
use Rattle.register_kinds.proofs.TakenKinds.{kept_own, used_forgotten, unused_forgotten}
use Rattle.register_kinds.proofs.registers.Registers.forget_ended_in.Goals as goal

pub returns-then-is_used-clause-kinds : goal.returns-then-is_used-clause-kinds
returns-then-is_used-clause-kinds c =
    kept_own (forgotten c.args.register (part c.args.parts.now c.args.types.now) (ends c.args.table.now
    c.args.self.now.kinds c.args.register (part c.args.parts.now c.args.types.now) (length c.args.parts.now)
    (seen_at c.args.self.now.kinds c.args.self.now.reached))) c.args.self.now.kinds c.args.lent
    (used_forgotten c.args.register (part c.args.parts.now c.args.types.now) _ c.args.lent _
    (sym c.is_used.ensures.is ∙ c.if-is_used.true))

pub returns-in-None-clause-kinds : goal.returns-in-None-clause-kinds
returns-in-None-clause-kinds c =
    kept_own (forgotten c.args.register (part c.args.parts.now c.args.types.now) (ends c.args.table.now
    c.args.self.now.kinds c.args.register (part c.args.parts.now c.args.types.now) (length c.args.parts.now)
    (seen_at c.args.self.now.kinds c.args.self.now.reached))) c.args.self.now.kinds c.args.lent
    (unused_forgotten c.args.register (part c.args.parts.now c.args.types.now) _ c.args.lent _
    (forget_none _ _ (ap from_of (sym c.known-known.ensures.is) ∙ sym c.from.ensures.is ∙ c.in-None.is)))

pub returns-else-ends-clause-kinds : goal.returns-else-ends-clause-kinds
returns-else-ends-clause-kinds c =
    kept_own (forgotten c.args.register (part c.args.parts.now c.args.types.now) (ends c.args.table.now
    c.args.self.now.kinds c.args.register (part c.args.parts.now c.args.types.now) (length c.args.parts.now)
    (seen_at c.args.self.now.kinds c.args.self.now.reached))) c.args.self.now.kinds c.args.lent
    (unused_forgotten c.args.register (part c.args.parts.now c.args.types.now) _ c.args.lent _
    (forget_kept _ _ c.in-Some.from (ap from_of (sym c.known-known.ensures.is) ∙ sym c.from.ensures.is ∙ c.in-Some.is)
    (sym c.ends.ensures.is ∙ c.if-ends.false)))
