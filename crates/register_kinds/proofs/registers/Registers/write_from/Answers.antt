use Rattle.std.proofs.Common.{◌∙◌, ap, map, set, sym, subst}
use Rattle.kind_domain.specs.code_rules.Changes.{written}
use Rattle.register_kinds.specs.Steps.{forgets}
use Rattle.register_kinds.specs.Climbs.{AreKnown}
use Rattle.kind_domain.specs.Views.{kind_of}
use Rattle.register_kinds.proofs.Changed.{written_is}
use Rattle.register_kinds.proofs.registers.Registers.write_from.Goals as goal

pub set_held-requires : goal.set_held-requires
set_held-requires c = record {
  known = subst (λ ks. AreKnown ks c.stays_held-held.result)
      (ap (λ s. written s.kinds c.args.register (kind_of c.args.known)) c.take_held-before.ensures.same
      ∙ sym (written_is c.args.self.now.kinds _ c.args.register (kind_of c.args.known)
      (kind_of c.forgetting.result) c.forgetting.ensures.is
      (c.change.ensures.kinds ∙ ap (λ ks. set ks c.args.register (kind_of c.forgetting.result)) (c.forget.ensures.kinds
      ∙ ap (λ s. map (forgets c.args.register) s.kinds) c.take_held-before.ensures.same))))
      c.stays_held-held.ensures.known;
}

pub returns-clause-kinds : goal.returns-clause-kinds
returns-clause-kinds c =
    ap (λ s. s.kinds) c.set_held.ensures.same
    ∙ written_is c.args.self.now.kinds _ c.args.register (kind_of c.args.known) (kind_of c.forgetting.result)
    c.forgetting.ensures.is
    (c.change.ensures.kinds ∙ ap (λ ks. set ks c.args.register (kind_of c.forgetting.result)) (c.forget.ensures.kinds
    ∙ ap (λ s. map (forgets c.args.register) s.kinds) c.take_held-before.ensures.same))
