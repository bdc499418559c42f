use Rattle.std.proofs.Common.{◌≡◌, take}
use Rattle.fip_language.specs.Mentions.{all_of}
use Rattle.static_params.specs.FlatProgram.{rows_of}
use Rattle.static_params.specs.FlatView.{AreNumbers, numbers_at}
use Rattle.reached_instances.specs.closed_types.SharedTrees.{Grows, tree_at, trees}
use Rattle.reached_instances.specs.SourceView.{source}
use Rattle.static_params.proofs.table.table_of.Given as goal

abbrev pub invariant-loop-place : goal.invariant-loop-place
invariant-loop-place l = record {
  grows : AreNumbers l.initial.shared l.numbers → Grows l.initial.shared.branches l.shared.branches;
  fits : AreNumbers l.initial.shared l.numbers → l.shared.fits ≡ l.initial.shared.fits;
  table : AreNumbers l.initial.shared l.numbers → l.table ≡ all_of (λ i. rows_of (source l.source) (numbers_at (trees l.initial.shared.branches) l.numbers) (tree_at (trees l.initial.shared.branches) i)) (take l.place-index l.place-items);
}
