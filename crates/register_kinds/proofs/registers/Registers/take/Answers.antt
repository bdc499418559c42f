use Rattle.std.proofs.Common.{ap, ◌∙◌, sym, subst}
use Rattle.kind_domain.specs.code_rules.Asked.{known_fields}
use Rattle.kind_domain.specs.code_rules.Kinds.{at}
use Rattle.kind_domain.specs.code_rules.Taking.{IsTaken}
use Rattle.register_kinds.specs.Climbs.{AreKnown}
use Rattle.register_kinds.proofs.Torn.{over_taken}
use Rattle.register_kinds.proofs.TakenKinds.{taken_is}
use Rattle.register_kinds.proofs.registers.Registers.take.Goals as goal

pub settle-requires : goal.settle-requires
settle-requires c = record {
  known = λ e.
      over_taken c.args.table.now c.take_held-held.new.self.kinds c.args.register c.args.parts.now
      c.known_fields-types.result.now c.tidy.new.self.kinds c.take_held-held.result
      (subst (λ s. AreKnown s.kinds c.take_held-held.result) (sym c.take_held-held.ensures.same)
      c.take_held-held.ensures.known)
      (c.is_plain-plain.ensures.owned e) (c.is_plain-plain.ensures.own e) (c.is_plain-plain.ensures.free e)
      (taken_is c.args.table.now c.args.register c.args.parts.now c.known_fields-types.result.now
      c.take_held-held.new.self.kinds c.pass_either.new.self.kinds c.fill.new.self.kinds c.tidy.new.self.kinds
      c.pass_either.ensures.passed c.fill.ensures.kinds c.fill.ensures.long
      (ap (λ s. s.kinds) c.tidy.ensures.same ∙ c.empty.ensures.kinds));
}

pub pass_either-requires-clause-known : goal.pass_either-requires-clause-known
pass_either-requires-clause-known c =
    subst (λ s. AreKnown s.kinds c.take_held-held.result) (sym c.take_held-held.ensures.same)
    c.take_held-held.ensures.known

pub returns-clause-kinds : goal.returns-clause-kinds
returns-clause-kinds c =
    subst (λ s. IsTaken c.args.table.now s.kinds c.args.register c.args.parts.now
    (known_fields c.args.table.now (at s.kinds c.args.register)) c.settle.new.self.kinds) c.take_held-held.ensures.same
    (subst (λ ts. IsTaken c.args.table.now c.take_held-held.new.self.kinds c.args.register c.args.parts.now ts
    c.settle.new.self.kinds) c.known_fields-types.ensures.is
    (taken_is c.args.table.now c.args.register c.args.parts.now c.known_fields-types.result.now
    c.take_held-held.new.self.kinds c.pass_either.new.self.kinds c.fill.new.self.kinds c.settle.new.self.kinds
    c.pass_either.ensures.passed c.fill.ensures.kinds c.fill.ensures.long
    (c.settle.ensures.kinds ∙ ap (λ s. s.kinds) c.tidy.ensures.same ∙ c.empty.ensures.kinds)))
