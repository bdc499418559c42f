use Rattle.type_check.proofs.Exact.{typed_exactly, filled_right}
use Rattle.type_check.proofs.theorems.typed_exactly.Goals as goal

pub returns-clause-both : goal.returns-clause-both
returns-clause-both c p = typed_exactly p

pub returns-clause-filled : goal.returns-clause-filled
returns-clause-filled c p h = filled_right p ((typed_exactly p).0 h)
