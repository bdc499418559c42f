use Rattle.command_source.proofs.CodeFiles.{listed}
use Rattle.command_source.proofs.files.verify_file.Goals as goal

pub returns-in_ok-functions_text-in-Ok-clause-listed : goal.returns-in_ok-functions_text-in-Ok-clause-listed
returns-in_ok-functions_text-in-Ok-clause-listed c = listed c.args.bytes.now c.in_ok-functions_text-in-Ok.field-0.items c.in-Ok.verified.code c.in-Ok.ensures.sound c.in_ok-functions_text-in-Ok.ensures.lines
