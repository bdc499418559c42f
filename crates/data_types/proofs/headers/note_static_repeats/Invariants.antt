use Rattle.std.proofs.Common.{◌≡◌, [], map, drop}
use Rattle.fip_base.specs.CoreView.{static}
use Rattle.fip_trees.specs.Least.{after}
use Rattle.fip_trees.specs.Names.{names}
use Rattle.data_types.specs.Faults.{repeats, static_mentions}
use Rattle.data_types.proofs.headers.note_static_repeats.Given as goal

abbrev pub invariant-loop-parameter : goal.invariant-loop-parameter
invariant-loop-parameter l = after l.least (repeats (names l.seen) (static_mentions (map static (drop l.parameter-index l.statics)))) ≡ after l.initial.least (repeats [] (static_mentions (map static l.statics)))
