use Rattle.command_source.proofs.CodeFiles.{function_found, function_missed}
use Rattle.command_source.proofs.Compiling.{chosen_function}
use Rattle.command_source.proofs.entry.run_entry.Goals as goal

pub returns-in-Ok-clause-ready : goal.returns-in-Ok-clause-ready
returns-in-Ok-clause-ready c = function_found c.args.bytes.now c.args.entry.now c.in-Ok.verified.code c.named_in.result c.in-Ok.ensures.sound c.named_in.ensures.ready

pub returns-in-Ok-clause-kept : goal.returns-in-Ok-clause-kept
returns-in-Ok-clause-kept c = function_missed c.args.bytes.now c.args.entry.now c.in-Ok.verified.code c.named_in.result c.in-Ok.ensures.sound c.named_in.ensures.none c.named_in.ensures.missed

pub returns-in-Ok-clause-code : goal.returns-in-Ok-clause-code
returns-in-Ok-clause-code c = chosen_function c.args.bytes.now c.args.entry.now c.in-Ok.verified.code c.named_in.result c.in-Ok.ensures.sound c.named_in.ensures.same c.named_in.ensures.named

pub named_in-requires : goal.named_in-requires
named_in-requires c = record { spelt = (c.args.bytes.now, c.in-Ok.ensures.sound.spelt) }
