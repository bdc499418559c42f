use Rattle.std.proofs.Common.{sym, ◌∙◌, ap}
use Rattle.kind_domain.specs.code_rules.Taking.{part}
use Rattle.kind_domain.specs.Leading.{names}
use Rattle.kind_domain.specs.Views.{kind_of}
use Rattle.register_kinds.proofs.TakenKinds.{no_heir_by}
use Rattle.register_kinds.proofs.take.is_heir_by.Goals as goal

pub returns-then-not-is_of : goal.returns-then-not-is_of
returns-then-not-is_of c = record {
  is = sym (no_heir_by c.args.table.now c.args.register (kind_of c.args.known)
      (part c.args.parts.now c.args.types.now c.args.other)
      (ap (names c.args.register) (sym c.from-from.ensures.is) ∙ sym c.is_of.ensures.is ∙ c.if-not-is_of.true));
}
