-- What the walk's proofs use everywhere.
use Rattle.std.proofs.Common.{append_assoc}
use Rattle.fip_trees.proofs.Leasts.{after-append}

pub ruleset noting = (after-append)

pub ruleset keeping = (after-append, append_assoc)
