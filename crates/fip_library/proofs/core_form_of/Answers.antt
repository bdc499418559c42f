use Rattle.std.proofs.Common.{◌∙◌, sym, ap}
use Rattle.fip_language.specs.CoreForm.{core_form}
use Rattle.fip_library.proofs.Phases.{no_refusal}
use Rattle.fip_library.proofs.core_form_of.Goals as goal

pub returns-in-Ok-core_of : goal.returns-in-Ok-core_of
returns-in-Ok-core_of c = record {
  core = λ d parsed.
      c.in-Ok-core_of.ensures.same ∙ ap core_form (c.in-Ok.ensures.only parsed.tree parsed.spelt) ∙ sym parsed.is;
}

pub returns-in-Err-Refused : goal.returns-in-Err-Refused
returns-in-Err-Refused c = record {
  core = λ d parsed.
      absurd (no_refusal c.in-Err-Refused.field-0 c.in-Err-Refused.refusal c.in-Err-Refused.field-0-is (c.in-Err-Refused.ensures.only parsed.tree parsed.spelt));
}
