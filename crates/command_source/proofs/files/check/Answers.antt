use Rattle.command_source.specs.Wanted.{Lawful}
use Rattle.command_source.proofs.files.check.Goals as goal

pub returns-in-Err-clause-kept : goal.returns-in-Err-clause-kept
returns-in-Err-clause-kept c = c.in-Err.ensures.kept Lawful
