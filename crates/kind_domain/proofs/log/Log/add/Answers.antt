use Rattle.std.proofs.Common.{arith, subst}
use Rattle.kind_domain.specs.Sights.{HasBefore}
use Rattle.kind_domain.proofs.Sights.{has_before}
use Rattle.kind_domain.proofs.log.Log.add.Goals as goal

pub returns-then-self-len : goal.returns-then-self-len
returns-then-self-len c = record {
  added = λ l xs e. subst (λ s. HasBefore s l xs c.args.register) c.self.view_is
      (has_before c.self.inside.items.items c.self.inside.top c.self.inside.turn c.args.register c.self.inside.seen.items
      c.self.invariant (let h = c.if-self-len.true in let g = c.len.ensures in omega arith) l xs e);
}
