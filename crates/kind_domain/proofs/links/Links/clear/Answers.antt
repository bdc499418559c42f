use Rattle.std.proofs.Common.{sym, ap, ◌∙◌, subst}
use Rattle.code_rules.specs.Kinds.{has}
use Rattle.kind_domain.specs.Leading.{Linked}
use Rattle.kind_domain.proofs.LinkLists.{list_other}
use Rattle.kind_domain.proofs.links.Links.clear.Goals as goal

pub returns-then-place-len : goal.returns-then-place-len
returns-then-place-len c = record {
  others = λ r q n l e. ap (λ xs. has xs q) (list_other c.self.inside.lists.items c.args.register r c.clear.new.self n)
      ∙ subst (λ s. Linked s r q) (sym c.self.view_is) l e;
}
