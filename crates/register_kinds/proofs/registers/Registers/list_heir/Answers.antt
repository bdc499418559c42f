use Rattle.std.proofs.Common.{refl, sym, ◌∙◌}
use Rattle.std.specs.Prelude.{Some}
use Rattle.kind_domain.specs.code_rules.Taking.{part}
use Rattle.register_kinds.specs.declared.sorting.Wanted.TheVariants.{Below}
use Rattle.register_kinds.proofs.Sorted.{below_wanted, listed_heir, step_by}
use Rattle.register_kinds.proofs.registers.Registers.list_heir.Goals as goal

pub returns-clause-good : goal.returns-clause-good
returns-clause-good c =
    step_by c.args.table.now c.args.self.now.kinds c.args.self.now.kinds c.args.register (part c.args.parts.now c.args.types.now)
    (Below c.args.heir (Some c.args.heir))
    c.args.self.now.lent c.list_wanted.new.self.lent c.args.self.now.reached c.list_wanted.new.self.reached refl
    (λ q o u l. listed_heir c.args.table.now c.args.self.now.kinds c.args.register c.args.heir q (part c.args.parts.now c.args.types.now)
    c.args.self.now.lent o c.requires.takable (sym c.is_heir.ensures.is ∙ c.if-not-is_heir.false) l)
    c.list_wanted.ensures.more c.list_wanted.ensures.only

pub returns-clause-heir : goal.returns-clause-heir
returns-clause-heir c = λ e q h k n.
    c.list_wanted.ensures.listed e q (Some c.args.heir)
    (below_wanted c.args.table.now c.args.self.now.kinds c.args.register c.args.heir q (part c.args.parts.now c.args.types.now) (Some c.args.heir) n)
