use Rattle.std.proofs.Common.{◌<◌, ◌∙◌, length, ap, sym, subst}
use Rattle.cell_code.specs.Plain.{plain}
use Rattle.cell_code.specs.declared.code.Code.{Code}
use Rattle.code_verify.specs.Checked.{Checked}
use Rattle.code_verify.specs.code_rules.Breaks.{IsSound}
use Rattle.command_source.specs.Codes.{IsSpelt}
use Rattle.command_source.proofs.entry.verified_entry.Goals as goal

pub returns-in-Ok-clause-same : goal.returns-in-Ok-clause-same
returns-in-Ok-clause-same c = ap (λ (v : Checked). v.code) c.ready_at.ensures.same ∙ c.in-Ok.ensures.code

pub returns-in-Ok-clause-sound : goal.returns-in-Ok-clause-sound
returns-in-Ok-clause-sound c = subst (λ (v : Checked). IsSound (plain v.code)) (sym c.ready_at.ensures.same) c.in-Ok.ensures.sound

pub ready_at-requires : goal.ready_at-requires
ready_at-requires c = record {
  spelt = subst (λ (k : Code). IsSpelt (plain k)) (sym c.in-Ok.ensures.code) c.requires.spelt;
  within = subst (λ (k : Code). c.args.function < length k.functions.items) (sym c.in-Ok.ensures.code) c.requires.within;
}
