use Rattle.std.proofs.Common.{sym, subst, arith}
use Rattle.kind_domain.specs.Leading.{Linked}
use Rattle.kind_domain.proofs.LinkLists.{linked_new, linked_more}
use Rattle.kind_domain.proofs.links.Links.add.Goals as goal

pub returns-in-Ok-clause-added : goal.returns-in-Ok-clause-added
returns-in-Ok-clause-added c =
    λ e. linked_new c.self.inside.lists.items c.args.register c.args.other c.index_mut.result.now c.push.new.self
    (let a = c.if-place-len.true in let b = c.len.ensures in omega arith) c.in-Ok.ensures.items

pub returns-in-Ok-clause-keeps : goal.returns-in-Ok-clause-keeps
returns-in-Ok-clause-keeps c =
    λ r q l e. linked_more c.self.inside.lists.items c.args.register c.args.other c.index_mut.result.now c.push.new.self
    (let a = c.if-place-len.true in let b = c.len.ensures in omega arith) c.index_mut.ensures.value
    c.in-Ok.ensures.items r q (subst (λ s. Linked s r q) (sym c.self.view_is) l e)
