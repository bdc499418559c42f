-- Lemmas of the trees' crate that functions here name.
use Rattle.fip_trees.proofs.TreeViews.{argument_constructor, count_view, count_patterns_view}
use Rattle.fip_trees.proofs.Leasts.{after-append}

pub ruleset counting = (count_view, count_patterns_view)

pub ruleset noting = (after-append)
