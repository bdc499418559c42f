use Rattle.command_source.specs.Wanted.{Root}
use Rattle.command_source.proofs.entry.eval_entry.Goals as goal

pub returns-in-Err-clause-kept : goal.returns-in-Err-clause-kept
returns-in-Err-clause-kept c = c.in-Err.ensures.kept (Root c.args.entry.now)
