use Rattle.std.proofs.Common.{◌∙◌, ap, map, set}
use Rattle.kind_domain.specs.code_rules.Changes.{forget, goes}
use Rattle.register_kinds.specs.Steps.{lose}
use Rattle.kind_domain.specs.cell_code.declared.kind.Kind.TheVariants.{Gone}
use Rattle.register_kinds.proofs.Changed.{used_is}
use Rattle.register_kinds.proofs.Torn.{over_used}
use Rattle.register_kinds.proofs.registers.Registers.use_up.Goals as goal

pub set_held-requires : goal.set_held-requires
set_held-requires c = record {
  known = c.mended.ensures.is c.put.new.self.kinds
      (over_used c.args.self.now.kinds c.put.new.self.kinds c.args.register c.take_held-held.result
      (used_is c.args.self.now.kinds _ c.args.register
      (c.put.ensures.kinds ∙ ap (λ ks. set ks c.args.register Gone) (c.lose.ensures.kinds
      ∙ ap (λ s. map (lose c.args.register) (map (forget (goes s.kinds c.args.register)) s.kinds)) c.take_held-held.ensures.same)))
      c.take_held-held.ensures.known);
}

pub returns-clause-kinds : goal.returns-clause-kinds
returns-clause-kinds c =
    ap (λ s. s.kinds) c.set_held.ensures.same ∙ used_is c.args.self.now.kinds _ c.args.register
    (c.put.ensures.kinds ∙ ap (λ ks. set ks c.args.register Gone) (c.lose.ensures.kinds
    ∙ ap (λ s. map (lose c.args.register) (map (forget (goes s.kinds c.args.register)) s.kinds)) c.take_held-held.ensures.same))
