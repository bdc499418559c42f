use Rattle.command_source.specs.Wanted.{Compiled}
use Rattle.code_file.specs.declared.tags.Version.TheVariants.{Second}
use Rattle.command_source.proofs.entry.exec_entry.Goals as goal

pub returns-in-Err-clause-kept : goal.returns-in-Err-clause-kept
returns-in-Err-clause-kept c = c.in-Err.ensures.kept (Compiled c.args.entry.now)

pub returns-in-Ok-clause-kept : goal.returns-in-Ok-clause-kept
returns-in-Ok-clause-kept c = c.compiled.ensures.kept c.args.source.now c.in-Ok.ensures.accepted

pub compiled-requires : goal.compiled-requires
compiled-requires c = record {
  spelt = let file = c.in-Ok.ensures.filed in (file.0, (Second, file.1));
  accepted = (c.args.source.now, c.in-Ok.ensures.accepted);
  groups = c.in-Ok.ensures.groups;
  code = c.in-Ok.ensures.code;
  sound = c.in-Ok.ensures.sound;
}
