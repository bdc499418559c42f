use Rattle.std.proofs.Common.{subst, sym}
use Rattle.code_verify.specs.code_rules.Breaks.{IsSound}
use Rattle.cell_code.specs.Plain.{plain}
use Rattle.command_source.proofs.phases.verified_front.Goals as goal

pub returns-clause-sound : goal.returns-clause-sound
returns-clause-sound c = subst (λ x. IsSound (plain x)) (sym c.in-Ok.ensures.same) c.requires.sound
