use Rattle.std.proofs.Common.{◌<◌, sym, ◌∙◌, ap, subst, length, arith}
use Rattle.kind_domain.specs.code_rules.Taking.{is_heir, part}
use Rattle.register_kinds.specs.Takes.{AreReached, nones}
use Rattle.register_kinds.proofs.Reaching.{reached_more, nones_fewer, next_below}
use Rattle.kind_domain.proofs.Heirs.{kept_long}
use Rattle.std.specs.Prelude.{Some}
use Rattle.register_kinds.proofs.registers.Registers.reach_one.Goals as goal

pub returns-in-Some-next-clause-reached : goal.returns-in-Some-next-clause-reached
returns-in-Some-next-clause-reached c =
    λ r. subst (AreReached c.args.self.now.kinds (is_heir c.args.table.now c.args.self.now.kinds c.args.register
    (part c.args.parts.now c.args.types.now))) (sym c.reach.ensures.is)
    (reached_more c.args.self.now.kinds (is_heir c.args.table.now c.args.self.now.kinds c.args.register
    (part c.args.parts.now c.args.types.now)) c.args.self.now.reached c.args.lent c.in-Some-next.heir
    (sym c.next.ensures.is ∙ c.in-Some-next.is) r)

pub returns-in-Some-next-clause-more : goal.returns-in-Some-next-clause-more
returns-in-Some-next-clause-more c =
    λ e. let there = next_below c.args.self.now.kinds (is_heir c.args.table.now c.args.self.now.kinds c.args.register
    (part c.args.parts.now c.args.types.now)) c.args.self.now.reached c.args.lent c.in-Some-next.heir
    (sym c.next.ensures.is ∙ c.in-Some-next.is) in
    let long = sym (kept_long c.args.self.now.reached c.args.lent (Some c.in-Some-next.heir))
    ∙ ap length (sym c.reach.ensures.is) ∙ c.reach.ensures.long ∙ ap length c.reach.ensures.kinds in
    subst (λ os. nones os < nones c.args.self.now.reached) (sym c.reach.ensures.is)
    (nones_fewer c.args.self.now.reached c.args.lent c.in-Some-next.heir (sym c.reached.ensures.is ∙ c.in-None.is)
    (omega arith))
