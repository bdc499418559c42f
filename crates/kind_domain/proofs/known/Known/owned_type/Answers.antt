use Rattle.std.proofs.Common.{ap}
use Rattle.kind_domain.specs.Views.{constructors_in, kind_of}
use Rattle.kind_domain.proofs.known.Known.owned_type.Goals as goal

pub returns-in-Owned-clause-is : goal.returns-in-Owned-clause-is
returns-in-Owned-clause-is c = (constructors_in c.in-Owned.set, ap kind_of c.in-Owned.is)
