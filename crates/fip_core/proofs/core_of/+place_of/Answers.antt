use Rattle.std.proofs.Common.{◌∙◌, sym, ap}
use Rattle.fip_base.specs.fip_language.CoreForm as form
use Rattle.fip_base.specs.CoreView as core
use Rattle.fip_core.proofs.CoreFacts.{nested_view, place_of_nested}
use Rattle.fip_core.proofs.core_of.+place_of.Goals as goal

pub returns-in-Nested : goal.returns-in-Nested
returns-in-Nested t c = record {
  place =
      c.place_of.ensures.place
      ∙ place_of_nested c.deref.result.now
      ∙ ap (λ b. form.block_place (core.block b)) c.deref.ensures
      ∙ ap form.place_of (sym (nested_view c.in-Nested.block))
      ∙ ap (λ e. form.place_of (core.expression e)) (sym c.in-Nested.is);
}
