use Rattle.std.proofs.Common.{sym, ap, ◌∙◌, subst, arith}
use Rattle.code_rules.specs.Kinds.{has}
use Rattle.kind_domain.specs.Leading.{Linked}
use Rattle.kind_domain.specs.Owners.{swapped}
use Rattle.kind_domain.proofs.LinkLists.{list_swapped}
use Rattle.kind_domain.proofs.links.Links.swap.Goals as goal

pub returns-then-second-len : goal.returns-then-second-len
returns-then-second-len c = record {
  swapped = λ r q l e. ap (λ xs. has xs q) (list_swapped c.self.inside.lists.items c.swap.new.self.items
      c.args.one c.args.other r (let h = c.if-first-len.true in let g = c.len.ensures in omega arith)
      (let h = c.if-second-len.true in let g = c.len-then-first-len.ensures in omega arith)
      (let h = c.swap.ensures.len in omega arith) c.swap.ensures.by_index)
      ∙ subst (λ s. Linked s (swapped c.args.one c.args.other r) q) (sym c.self.view_is) l e;
}
