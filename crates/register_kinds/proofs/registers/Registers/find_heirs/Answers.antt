use Rattle.std.proofs.Common.{subst}
use Rattle.kind_domain.specs.code_rules.Taking.{is_heir, part}
use Rattle.register_kinds.specs.Takes.{AreReached, AreSettled}
use Rattle.register_kinds.proofs.Reaching.{all_found}
use Rattle.register_kinds.proofs.TakenKinds.{heirs_listed}
use Rattle.register_kinds.proofs.registers.Registers.find_heirs.Goals as goal

pub returns-clause-reached : goal.returns-clause-reached
returns-clause-reached c =
    all_found c.args.self.now.kinds (is_heir c.args.table.now c.args.self.now.kinds c.args.register
    (part c.args.parts.now c.args.types.now)) c.reach_more.new.self.reached c.args.self.now.lent
    (heirs_listed c.args.table.now c.args.self.now.kinds c.args.register c.args.parts.now c.args.types.now
    c.args.self.now.lent c.requires.gathered)
    (subst (λ ks. AreReached ks (is_heir c.args.table.now ks c.args.register
    (part c.args.parts.now c.args.types.now)) c.loop.self.reached →
    AreReached ks (is_heir c.args.table.now ks c.args.register (part c.args.parts.now c.args.types.now))
    c.reach_more.new.self.reached) c.loop.invariant.kinds c.reach_more.ensures.reached c.loop.invariant.reached)
    (subst (λ ks. AreSettled ks (is_heir c.args.table.now ks c.args.register
    (part c.args.parts.now c.args.types.now)) c.reach_more.new.self.reached c.args.self.now.lent)
    c.loop.invariant.kinds
    (subst (λ xs. AreSettled c.loop.self.kinds (is_heir c.args.table.now c.loop.self.kinds c.args.register
    (part c.args.parts.now c.args.types.now)) c.reach_more.new.self.reached xs) c.loop.invariant.lent
    (c.reach_more.ensures.settled c.loop-test.false)))
