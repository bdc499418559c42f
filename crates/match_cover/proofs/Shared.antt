-- Lemmas of lower crates that functions here name.
use Rattle.fip_trees.proofs.Leasts.{after-append}
use Rattle.match_knowledge.proofs.Steps.{past_end}

pub ruleset noting = (after-append)

pub ruleset ends = (past_end)
