use Rattle.std.proofs.Common.{ap, ◌∙◌, sym, arith}
use Rattle.code_rules.specs.Kinds.{has}
use Rattle.kind_domain.proofs.LentLists.{unmarked_unheld}
use Rattle.kind_domain.proofs.lents.Lents.is_listed.Goals as goal

pub returns-then-register-len : goal.returns-then-register-len
returns-then-register-len c = record {
  listed = λ e. ap (λ v. has v.held c.args.register) (sym c.self.view_is)
      ∙ c.self.invariant.lists c.args.register (c.is_marked.ensures.marked e
      (let h = c.if-register-len.true in let g = c.len.ensures in let l = c.self.invariant.long in omega arith));
  unlisted = λ e l. ap (λ v. has v.held c.args.register) (sym c.self.view_is)
      ∙ unmarked_unheld c.self.inside.items.items c.self.inside.top c.self.inside.listed c.self.inside.reached.items
      c.args.register c.self.invariant (c.is_marked.ensures.unmarked e);
}
