use Rattle.std.proofs.Common.{sym, ◌∙◌, ap, set}
use Rattle.kind_domain.specs.code_rules.Kinds.{at, is_lent_of}
use Rattle.kind_domain.specs.code_rules.Taking.{part, with_root}
use Rattle.register_kinds.specs.Takes.{fated, stands_for}
use Rattle.register_kinds.proofs.TakenKinds.{kept_own, used_fated, fated_some, fated_gone, fated_kept}
use Rattle.register_kinds.proofs.registers.Registers.pass_on_in.Goals as goal

pub returns-then-is_used-clause-kinds : goal.returns-then-is_used-clause-kinds
returns-then-is_used-clause-kinds c =
    kept_own (fated (stands_for c.args.keeper c.args.register) c.args.register (part c.args.parts.now c.args.types.now) c.args.self.now.reached)
    c.args.self.now.kinds c.args.lent
    (used_fated (stands_for c.args.keeper c.args.register) c.args.register (part c.args.parts.now c.args.types.now) c.args.self.now.reached c.args.lent _
    (sym c.is_used.ensures.is ∙ c.if-is_used.true))

pub returns-in-Some-clause-kinds : goal.returns-in-Some-clause-kinds
returns-in-Some-clause-kinds c =
    c.put_root.ensures.kinds ∙ ap (set c.args.self.now.kinds c.args.lent)
    (ap (λ d. with_root d (at c.args.self.now.kinds c.args.lent)) c.stands_for.ensures.is
    ∙ fated_some (stands_for c.args.keeper c.args.register) c.args.register (part c.args.parts.now c.args.types.now) c.args.self.now.reached c.args.lent
    c.in-Some.heir _ (sym c.is_used.ensures.is ∙ c.if-is_used.false) (sym c.seen.ensures.is ∙ c.in-Some.is))

pub returns-then-is_lent_of-clause-kinds : goal.returns-then-is_lent_of-clause-kinds
returns-then-is_lent_of-clause-kinds c =
    c.put.ensures.kinds ∙ ap (set c.args.self.now.kinds c.args.lent)
    (fated_gone (stands_for c.args.keeper c.args.register) c.args.register (part c.args.parts.now c.args.types.now) c.args.self.now.reached c.args.lent _
    (sym c.is_used.ensures.is ∙ c.if-is_used.false) (sym c.seen.ensures.is ∙ c.in-None.is)
    (ap (is_lent_of c.args.register) (sym c.known.ensures.is) ∙ sym c.is_lent_of.ensures.is ∙ c.if-is_lent_of.true))

pub returns-else-is_lent_of-clause-kinds : goal.returns-else-is_lent_of-clause-kinds
returns-else-is_lent_of-clause-kinds c =
    kept_own (fated (stands_for c.args.keeper c.args.register) c.args.register (part c.args.parts.now c.args.types.now) c.args.self.now.reached)
    c.args.self.now.kinds c.args.lent
    (fated_kept (stands_for c.args.keeper c.args.register) c.args.register (part c.args.parts.now c.args.types.now) c.args.self.now.reached c.args.lent _
    (sym c.seen.ensures.is ∙ c.in-None.is)
    (ap (is_lent_of c.args.register) (sym c.known.ensures.is) ∙ sym c.is_lent_of.ensures.is ∙ c.if-is_lent_of.false))
