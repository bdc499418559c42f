use Rattle.std.proofs.Common.{inl, inr, refl, sym, ap, ◌∙◌}
use Rattle.std.specs.Prelude.{is_some}
use Rattle.kind_domain.specs.code_rules.Taking.{part}
use Rattle.kind_domain.specs.Leading.{kept_at}
use Rattle.register_kinds.specs.declared.sorting.Wanted.TheVariants.{Ended}
use Rattle.register_kinds.specs.Takes.{as_part}
use Rattle.register_kinds.proofs.Sorted.{ended_kept, ended_wanted, listed_ended, step_by}
use Rattle.register_kinds.proofs.registers.Registers.list_part.Goals as goal

pub returns-else-is_heir-clause-good : goal.returns-else-is_heir-clause-good
returns-else-is_heir-clause-good c =
    step_by c.args.table.now c.args.self.now.kinds c.args.self.now.kinds c.args.register (part c.args.parts.now c.args.types.now)
    (Ended c.args.other c.args.keeper)
    c.args.self.now.lent c.list_wanted.new.self.lent c.args.self.now.reached c.list_wanted.new.self.reached refl
    (λ q o u l. listed_ended c.args.table.now c.args.self.now.kinds c.args.register c.args.other q (part c.args.parts.now c.args.types.now)
    c.args.self.now.lent c.args.keeper o c.requires.takable c.requires.rest
    (ap is_some (sym c.piece_of.ensures.is ∙ ap as_part c.in-Some.is)) u l)
    c.list_wanted.ensures.more c.list_wanted.ensures.only

pub returns-else-is_heir-clause-only : goal.returns-else-is_heir-clause-only
returns-else-is_heir-clause-only c = λ q e. elim (c.list_wanted.ensures.only q e) [
  | inl h ↦ inl h
  | inr h ↦ inr (λ l. ended_kept c.args.table.now c.args.self.now.kinds c.args.register c.args.other q (part c.args.parts.now c.args.types.now)
      c.args.self.now.lent c.args.keeper (kept_at c.list_wanted.new.self.reached q) c.requires.takable
      c.requires.rest (ap is_some (sym c.piece_of.ensures.is ∙ ap as_part c.in-Some.is)) h.0 h.1 l)
]

pub returns-else-is_heir-clause-ended : goal.returns-else-is_heir-clause-ended
returns-else-is_heir-clause-ended c = λ e q s h n.
    c.list_wanted.ensures.listed e q _
    (ended_wanted c.args.table.now c.args.self.now.kinds c.args.register c.args.other q (part c.args.parts.now c.args.types.now) c.args.keeper n)
