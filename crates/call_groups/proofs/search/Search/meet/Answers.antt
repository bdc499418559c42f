use Rattle.std.proofs.Common.{refl}
use Rattle.call_groups.proofs.search.Search.meet.Goals as goal
use Rattle.call_groups.proofs.Unmet.{unmet_met}

pub returns-clause-met : goal.returns-clause-met
returns-clause-met c = rw c.put.ensures (unmet_met _ _ _ c.requires refl)
