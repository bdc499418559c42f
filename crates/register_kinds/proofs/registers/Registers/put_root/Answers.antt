use Rattle.std.proofs.Common.{sym, ◌∙◌, ap, set}
use Rattle.kind_domain.specs.code_rules.Kinds.{at, is_lent_of}
use Rattle.kind_domain.specs.code_rules.Taking.{with_root}
use Rattle.kind_domain.proofs.Places.{set_same}
use Rattle.register_kinds.proofs.TakenKinds.{root_kept}
use Rattle.register_kinds.proofs.registers.Registers.put_root.Goals as goal

pub returns-then-not-is_lent_of-clause-kinds : goal.returns-then-not-is_lent_of-clause-kinds
returns-then-not-is_lent_of-clause-kinds c =
    c.put_alike.ensures.kinds ∙ ap (set c.args.self.now.kinds c.args.lent)
    (c.with_root.ensures.is ∙ ap (with_root c.args.owner) c.known-known.ensures.is)

pub returns-else-not-is_lent_of-clause-kinds : goal.returns-else-not-is_lent_of-clause-kinds
returns-else-not-is_lent_of-clause-kinds c =
    sym (ap (set c.args.self.now.kinds c.args.lent) (root_kept c.args.owner (at c.args.self.now.kinds c.args.lent)
    (ap (is_lent_of c.args.owner) (sym c.known-known.ensures.is) ∙ sym c.is_lent_of.ensures.is ∙ c.if-not-is_lent_of.false))
    ∙ set_same c.args.self.now.kinds c.args.lent)
