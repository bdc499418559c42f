use Rattle.std.proofs.Common.{◌≡◌, ◌++◌, map, drop}
use Rattle.fip_trees.specs.TreeView.{counts_row}
use Rattle.static_params.specs.FlatProgram.{field_counts}
use Rattle.reached_instances.specs.SourceView as S
use Rattle.static_params.proofs.specialised.field_counts_of.Given as goal

abbrev pub invariant-loop-declared : goal.invariant-loop-declared
invariant-loop-declared l = map counts_row l.counts.items ++ map field_counts (map S.declared (drop l.declared-index l.types)) ≡ map field_counts (map S.declared l.types)
