use Rattle.std.proofs.Common.{◌≡◌, ◌+◌, map, drop}
use Rattle.fip_base.specs.CoreView.{data_type}
use Rattle.fip_trees.specs.Least.{after}
use Rattle.data_types.specs.Answers.{value_faults}
use Rattle.data_types.proofs.declared.note_unvalued.Given as goal

abbrev pub invariant-loop-data : goal.invariant-loop-data
invariant-loop-data l = record {
  place : l.place ≡ l.data-index + 1;
  faults : after l.least (value_faults l.place l.valued (map data_type (drop l.data-index l.declared))) ≡ after l.initial.least (value_faults 1 l.valued (map data_type l.declared));
}
