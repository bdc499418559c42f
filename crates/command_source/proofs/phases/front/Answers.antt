use Rattle.fip_trees.specs.TreeView as V
use Rattle.command_source.specs.Wanted.{Lawful}
use Rattle.command_source.proofs.Compiling.{headed_verified, filed_verified}
use Rattle.command_source.proofs.Reported.{out_of_memory_keeps}
use Rattle.command_source.proofs.phases.front.Goals as goal

pub returns-in-Err-clause-kept : goal.returns-in-Err-clause-kept
returns-in-Err-clause-kept c = c.in-Err.ensures.kept Lawful

pub returns-in-Ok-clause-kept : goal.returns-in-Ok-clause-kept
returns-in-Ok-clause-kept c = out_of_memory_keeps c.args.source.now Lawful c.verified_front.result c.verified_front.ensures.out_of_memory

pub returns-in-Ok-clause-code : goal.returns-in-Ok-clause-code
returns-in-Ok-clause-code c = headed_verified (V.program c.in-Ok.lowered.typed.program) c.in-Ok.lowered.code c.verified_front.result c.in-Ok.ensures.code c.verified_front.ensures.typed c.verified_front.ensures.code

pub returns-in-Ok-clause-filed : goal.returns-in-Ok-clause-filed
returns-in-Ok-clause-filed c = filed_verified c.in-Ok.lowered.code c.verified_front.result c.in-Ok.ensures.filed c.verified_front.ensures.code

pub verified_front-requires : goal.verified_front-requires
verified_front-requires c = record { groups = c.in-Ok.ensures.groups; code = c.in-Ok.ensures.code; sound = c.in-Ok.ensures.sound }
