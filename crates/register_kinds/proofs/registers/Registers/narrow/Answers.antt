use Rattle.std.proofs.Common.{◌∙◌, ap, set}
use Rattle.std.specs.Prelude.{[], ◌∷◌}
use Rattle.kind_domain.specs.code_rules.Changes.{narrow}
use Rattle.kind_domain.specs.Views.{kind_of}
use Rattle.register_kinds.proofs.Changed.{tested_is}
use Rattle.register_kinds.proofs.Torn.{known_tested}
use Rattle.register_kinds.proofs.registers.Registers.narrow.Goals as goal

pub set_held-requires : goal.set_held-requires
set_held-requires c = record {
  known = known_tested c.args.self.now.kinds c.put.new.self.kinds c.args.register (c.args.constructor ∷ [])
      c.take_held-held.result
      (tested_is c.args.self.now.kinds _ c.args.register (c.args.constructor ∷ [])
      (c.put.ensures.kinds ∙ ap (λ s. set s.kinds c.args.register (kind_of c.narrowed.result)) c.take_held-held.ensures.same
      ∙ ap (set c.args.self.now.kinds c.args.register)
      (c.narrowed.ensures.is ∙ ap (narrow (c.args.constructor ∷ [])) c.known-known.ensures.is)))
      c.take_held-held.ensures.known;
}

pub returns-clause-kinds : goal.returns-clause-kinds
returns-clause-kinds c =
    ap (λ s. s.kinds) c.set_held.ensures.same
    ∙ tested_is c.args.self.now.kinds _ c.args.register (c.args.constructor ∷ [])
    (c.put.ensures.kinds ∙ ap (λ s. set s.kinds c.args.register (kind_of c.narrowed.result)) c.take_held-held.ensures.same
    ∙ ap (set c.args.self.now.kinds c.args.register)
    (c.narrowed.ensures.is ∙ ap (narrow (c.args.constructor ∷ [])) c.known-known.ensures.is))
