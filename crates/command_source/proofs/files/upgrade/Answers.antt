use Rattle.command_source.proofs.CodeFiles.{listed}
use Rattle.command_source.proofs.files.upgrade.Goals as goal

pub returns-in-Ok-written-clause-listed : goal.returns-in-Ok-written-clause-listed
returns-in-Ok-written-clause-listed c = listed c.args.bytes.now c.in_ok-text-in-Ok-written.text.items c.in-Ok.verified.code c.in-Ok.ensures.sound c.in_ok-text-in-Ok-written.ensures.lines
