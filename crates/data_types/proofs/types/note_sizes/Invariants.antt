use Rattle.std.proofs.Common.{◌≡◌, map, drop}
use Rattle.fip_base.specs.CoreView.{data_constructor}
use Rattle.fip_trees.specs.Least.{after}
use Rattle.data_types.specs.Faults.{size_faults}
use Rattle.data_types.proofs.types.note_sizes.Given as goal

abbrev pub invariant-loop-constructor : goal.invariant-loop-constructor
invariant-loop-constructor l = after l.least (size_faults (map data_constructor (drop l.constructor-index l.constructors))) ≡ after l.initial.least (size_faults (map data_constructor l.constructors))
