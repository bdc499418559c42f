use Rattle.std.proofs.Common.{◌∙◌, refl, sym, inl, true≢false}
use Rattle.code_rules.specs.declared.rule.SoundRule.TheVariants.{S0}
use Rattle.code_verify.proofs.accept.has_sound_tables.Goals as goal

pub unreachable-requires : goal.unreachable-requires
unreachable-requires c = c.requires.sound 0 0 S0 (inl ((λ tables. true≢false (sym (c.in-Ok.ensures.exact.1 tables) ∙ c.if-sound.false)), refl, refl, refl))
