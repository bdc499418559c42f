use Rattle.std.proofs.Common.{◌≡◌, [], map, drop}
use Rattle.fip_base.specs.CoreView.{parameter}
use Rattle.fip_trees.specs.Least.{after}
use Rattle.fip_trees.specs.Names.{names}
use Rattle.data_types.specs.Faults.{repeats, parameter_mentions}
use Rattle.data_types.proofs.headers.note_parameter_repeats.Given as goal

abbrev pub invariant-loop-parameter : goal.invariant-loop-parameter
invariant-loop-parameter l = after l.least (repeats (names l.seen) (parameter_mentions (map parameter (drop l.parameter-index l.parameters)))) ≡ after l.initial.least (repeats [] (parameter_mentions (map parameter l.parameters)))
