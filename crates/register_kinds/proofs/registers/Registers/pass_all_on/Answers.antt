use Rattle.std.proofs.Common.{sym, ◌∙◌, ap, refl, subst}
use Rattle.std.specs.Prelude.{None}
use Rattle.kind_domain.specs.code_rules.Kinds.{at}
use Rattle.kind_domain.specs.code_rules.Taking.{part, is_heir, IsReached}
use Rattle.register_kinds.specs.Takes.{GathersParts, fated, in_turn, seen_at, stands_for, IsPassed}
use Rattle.kind_domain.proofs.Naming.{all_same}
use Rattle.register_kinds.proofs.TakenKinds.{passed_is, stands_apart, stands_twice}
use Rattle.register_kinds.proofs.registers.Registers.pass_all_on.Goals as goal

pub returns-clause-passed : goal.returns-clause-passed
returns-clause-passed c =
    let f = stands_for None c.args.register in
    subst (λ ks. IsPassed c.args.table.now ks c.args.register c.args.parts.now c.args.types.now
    c.pass_on.new.self.kinds) (c.find_heirs.ensures.kinds ∙ c.gather_parts.ensures.kinds)
    (passed_is f c.args.table.now c.args.register c.args.parts.now c.args.types.now c.find_heirs.new.self.reached
    c.find_heirs.new.self.kinds c.forget_ended.new.self.kinds c.pass_on.new.self.kinds c.pass_on.new.self.kinds
    c.find_heirs.new.self.lent
    (subst (λ ks. GathersParts ks c.args.register (is_heir c.args.table.now ks c.args.register
    (part c.args.parts.now c.args.types.now)) c.args.parts.now c.find_heirs.new.self.lent)
    (sym (c.find_heirs.ensures.kinds ∙ c.gather_parts.ensures.kinds))
    (subst (GathersParts c.args.self.now.kinds c.args.register (is_heir c.args.table.now c.args.self.now.kinds
    c.args.register (part c.args.parts.now c.args.types.now)) c.args.parts.now) (sym c.find_heirs.ensures.lent)
    c.gather_parts.ensures.gathered))
    (subst (λ ks. (q : _) → IsReached ks (is_heir c.args.table.now ks c.args.register
    (part c.args.parts.now c.args.types.now)) q (seen_at ks c.find_heirs.new.self.reached q))
    (sym c.find_heirs.ensures.kinds) c.find_heirs.ensures.reached)
    (stands_twice None c.args.register)
    (λ q e. stands_apart None c.args.register (at c.find_heirs.new.self.kinds q) (λ h i. absurd (cc)) e)
    c.forget_ended.ensures.kinds
    (c.pass_on.ensures.kinds
    ∙ ap (λ os. in_turn (fated f c.args.register (part c.args.parts.now c.args.types.now) os)
    c.forget_ended.new.self.kinds c.forget_ended.new.self.lent) c.forget_ended.ensures.reached
    ∙ ap (in_turn (fated f c.args.register (part c.args.parts.now c.args.types.now)
    c.find_heirs.new.self.reached) c.forget_ended.new.self.kinds) c.forget_ended.ensures.lent)
    (sym (all_same f (λ d. refl) c.pass_on.new.self.kinds)))

pub find_heirs-requires-clause-gathered : goal.find_heirs-requires-clause-gathered
find_heirs-requires-clause-gathered c =
    subst (λ ks. GathersParts ks c.args.register (is_heir c.args.table.now ks c.args.register
    (part c.args.parts.now c.args.types.now)) c.args.parts.now c.gather_parts.new.self.lent)
    (sym c.gather_parts.ensures.kinds)
    c.gather_parts.ensures.gathered
