use Rattle.std.proofs.Common.{ap, ◌∙◌}
use Rattle.kind_domain.specs.code_rules.Kinds.{at}
use Rattle.kind_domain.specs.Leading.{leads}
use Rattle.kind_domain.proofs.LentLists.{grows_has}
use Rattle.register_kinds.proofs.registers.Registers.gather.Goals as goal

pub returns-clause-gathered : goal.returns-clause-gathered
returns-clause-gathered c = record {
  own = λ q e. grows_has _ _ c.list_further.ensures.more q (c.list_to.ensures.listed q
      (ap (λ ks. leads c.args.register (at ks q)) c.list_none.ensures.kinds ∙ e));
  further = λ p q a e. c.list_further.ensures.closed p q a
      (ap (λ ks. leads p (at ks q)) (c.list_to.ensures.kinds ∙ c.list_none.ensures.kinds) ∙ e);
}
