use Rattle.std.proofs.Common.{ap, Err}
use Rattle.fip_trees.specs.TreeView.{program}
use Rattle.command_source.proofs.Deriving.{derived_file, underived}
use Rattle.command_source.proofs.derivations.derivation_of.Goals as goal

pub returns-in_ok-text-in-Ok-clause-stored : goal.returns-in_ok-text-in-Ok-clause-stored
returns-in_ok-text-in-Ok-clause-stored c = λ source accepted all. derived_file source c.in-Ok.file.items (program c.args.typed.now.program) c.args.needs.now accepted all c.in-Ok.ensures.text c.in-Ok.ensures.within

pub returns-in-Err-TooLong-clause-underived : goal.returns-in-Err-TooLong-clause-underived
returns-in-Err-TooLong-clause-underived c = λ source accepted all r same. underived source (program c.args.typed.now.program) c.args.needs.now accepted all (c.in-Err-TooLong.ensures.long (ap Err c.in-Err-TooLong.field-0-is))
