use Rattle.std.proofs.Common.{◌<◌, arith, length}
use Rattle.command_source.proofs.Compiling.{named_one}
use Rattle.command_source.proofs.entry.function_named.Goals as goal

pub returns-clause-is : goal.returns-clause-is
returns-clause-is c =
    let some : 0 < length c.args.name.now = grind (arith, c.is_empty.ensures, c.if-is_empty.false) in
    named_one c.args.name.now c.args.functions.now c.first_named.result some c.first_named.ensures.is
