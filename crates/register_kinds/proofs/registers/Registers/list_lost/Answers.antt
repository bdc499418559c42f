use Rattle.std.proofs.Common.{refl, ap, ◌∙◌}
use Rattle.std.specs.Prelude.{None}
use Rattle.kind_domain.specs.code_rules.Kinds.{at, from_of, is_lent_of}
use Rattle.kind_domain.specs.code_rules.Taking.{part}
use Rattle.register_kinds.specs.declared.sorting.Wanted.TheVariants.{Lost, Loose}
use Rattle.kind_domain.proofs.LentLists.{grows_has}
use Rattle.register_kinds.proofs.Sorted.{listed_loose, listed_lost, lost_wanted, loose_wanted, step_by}
use Rattle.register_kinds.proofs.registers.Registers.list_lost.Goals as goal

pub returns-then-not-list_wanted-clause-good : goal.returns-then-not-list_wanted-clause-good
returns-then-not-list_wanted-clause-good c =
    step_by c.args.table.now c.args.self.now.kinds c.args.self.now.kinds c.args.register (part c.args.parts.now c.args.types.now) Lost
    c.args.self.now.lent c.list_wanted.new.self.lent c.args.self.now.reached c.list_wanted.new.self.reached refl
    (λ q o u l. listed_lost c.args.table.now c.args.self.now.kinds c.args.register q (part c.args.parts.now c.args.types.now) c.args.self.now.lent o
    c.requires.takable l) c.list_wanted.ensures.more c.list_wanted.ensures.only

pub returns-clause-good : goal.returns-clause-good
returns-clause-good c = λ a.
    step_by c.args.table.now c.args.self.now.kinds c.list_wanted.new.self.kinds c.args.register (part c.args.parts.now c.args.types.now) Loose
    c.list_wanted.new.self.lent c.list_wanted-2.new.self.lent c.list_wanted.new.self.reached
    c.list_wanted-2.new.self.reached c.list_wanted.ensures.kinds
    (λ q o u l. listed_loose c.args.table.now c.args.self.now.kinds c.args.register q (part c.args.parts.now c.args.types.now)
    c.list_wanted.new.self.lent o l) c.list_wanted-2.ensures.more c.list_wanted-2.ensures.only
    (step_by c.args.table.now c.args.self.now.kinds c.args.self.now.kinds c.args.register (part c.args.parts.now c.args.types.now) Lost
    c.args.self.now.lent c.list_wanted.new.self.lent c.args.self.now.reached c.list_wanted.new.self.reached refl
    (λ q o u l. listed_lost c.args.table.now c.args.self.now.kinds c.args.register q (part c.args.parts.now c.args.types.now) c.args.self.now.lent o
    c.requires.takable l) c.list_wanted.ensures.more c.list_wanted.ensures.only a)

pub returns-clause-lost : goal.returns-clause-lost
returns-clause-lost c = λ e q n h.
    grows_has c.list_wanted.new.self.lent c.list_wanted-2.new.self.lent c.list_wanted-2.ensures.more q
    (c.list_wanted.ensures.listed c.if-not-list_wanted.false q None
    (lost_wanted c.args.table.now c.args.self.now.kinds c.args.register q (part c.args.parts.now c.args.types.now) n h))

pub returns-clause-loose : goal.returns-clause-loose
returns-clause-loose c = λ e q l n.
    c.list_wanted-2.ensures.listed e q None
    (loose_wanted c.args.table.now c.list_wanted.new.self.kinds c.args.register q (part c.args.parts.now c.args.types.now)
    (ap (λ ks. is_lent_of c.args.register (at ks q)) c.list_wanted.ensures.kinds ∙ l)
    (ap (λ ks. from_of (at ks q)) c.list_wanted.ensures.kinds ∙ n))
