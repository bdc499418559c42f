use Rattle.std.proofs.Common.{sym, ap, ◌∙◌}
use Rattle.kind_domain.specs.code_rules.Kinds.{at}
use Rattle.kind_domain.specs.code_rules.Taking.{is_heir, part}
use Rattle.kind_domain.specs.Leading.{leads}
use Rattle.kind_domain.proofs.LentLists.{closed_more, grows_has}
use Rattle.register_kinds.proofs.registers.Registers.gather_parts.Goals as goal

pub list_further-requires-clause-closed : goal.list_further-requires-clause-closed
list_further-requires-clause-closed c =
    closed_more c.list_to.new.self.kinds c.list_further-settled.new.self.lent c.list_to.new.self.lent
    c.list_further-settled.result c.list_further-settled.ensures.end
    (λ p q a b. c.list_further-settled.ensures.closed p q a
    (ap (λ ks. leads p (at ks q)) (sym (c.list_to.ensures.kinds ∙ c.list_further-settled.ensures.kinds)) ∙ b))
    c.list_to.ensures.more

pub returns-clause-gathered : goal.returns-clause-gathered
returns-clause-gathered c =
    let k0 = c.list_none.ensures.kinds in
    let k1 = c.list_to_heirs.ensures.kinds ∙ k0 in
    let k2 = c.list_further-settled.ensures.kinds ∙ k1 in
    let k3 = c.list_to.ensures.kinds ∙ k2 in
    let k4 = c.list_further.ensures.kinds ∙ k3 in
    record {
      inner = c.list_further.new.self.lent;
      gathers = record {
        own = λ q e. grows_has _ _ c.list_further.ensures.more q (c.list_to.ensures.listed q
            (ap (λ ks. leads c.args.register (at ks q)) k2 ∙ e));
        further = λ p q a e. c.list_further.ensures.closed p q a (ap (λ ks. leads p (at ks q)) k3 ∙ e);
      };
      heirs = λ p q h e. grows_has _ _ c.list_further.ensures.more q (grows_has _ _ c.list_to.ensures.more q
          (grows_has _ _ c.list_further-settled.ensures.more q (c.list_to_heirs.ensures.listed p q
          (ap (λ ks. is_heir c.args.table.now ks c.args.register (part c.args.parts.now c.args.types.now) p) k0 ∙ h)
          (ap (λ ks. leads p (at ks q)) k0 ∙ e))));
      parts = λ p q a e. c.list_to_each.ensures.listed p q a (ap (λ ks. leads p (at ks q)) k4 ∙ e);
      inside = λ q e. grows_has _ _ c.list_to_each.ensures.more q e;
    }
