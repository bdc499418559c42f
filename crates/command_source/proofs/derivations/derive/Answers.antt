use Rattle.std.proofs.Common.{inl}
use Rattle.command_source.specs.Wanted.{Lawful}
use Rattle.command_source.proofs.Deriving.{underived_kept}
use Rattle.command_source.proofs.derivations.derive.Goals as goal

pub returns-in-Err-clause-kept : goal.returns-in-Err-clause-kept
returns-in-Err-clause-kept c = inl (c.in-Err.ensures.kept Lawful)

pub returns-in-Ok-clause-stored : goal.returns-in-Ok-clause-stored
returns-in-Ok-clause-stored c = c.derivation_of.ensures.stored c.args.source.now c.in-Ok.ensures.accepted c.in-Ok.ensures.needs

pub returns-in-Ok-clause-kept : goal.returns-in-Ok-clause-kept
returns-in-Ok-clause-kept c = underived_kept c.args.source.now c.derivation_of.result (c.derivation_of.ensures.underived c.args.source.now c.in-Ok.ensures.accepted c.in-Ok.ensures.needs) c.derivation_of.ensures.long
