use Rattle.std.proofs.Common.{◌≡◌, take}
use Rattle.fip_language.specs.Mentions.{all_of}
use Rattle.static_params.specs.FlatProgram.{declaring_of}
use Rattle.reached_instances.specs.closed_types.SharedTrees.{tree_at, trees}
use Rattle.reached_instances.specs.SourceView.{source}
use Rattle.static_params.proofs.table.declaring_of.Given as goal

abbrev pub invariant-loop-place : goal.invariant-loop-place
invariant-loop-place l = l.declaring.items ≡ all_of (λ i. declaring_of (source l.source) (tree_at (trees l.shared.branches) i)) (take l.place-index l.place-items)
