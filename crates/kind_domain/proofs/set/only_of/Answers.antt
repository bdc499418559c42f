use Rattle.std.proofs.Common.{rules}
use Rattle.kind_domain.proofs.Sets.{only_none}
use Rattle.kind_domain.proofs.set.only_of.Goals as goal

pub returns-in_default-clause-other : goal.returns-in_default-clause-other
returns-in_default-clause-other c = λ e. only_none c.args.count (search rules)
