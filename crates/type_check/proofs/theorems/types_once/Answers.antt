use Rattle.std.proofs.Common.{false}
use Rattle.type_check.proofs.Once.{once_block}
use Rattle.type_check.proofs.theorems.types_once.Goals as goal

pub returns : goal.returns
returns c w s d ts us h k = once_block false false w s d ts us h k
