use Rattle.std.proofs.Common.{◌≡◌, true, map, drop}
use Rattle.fip_base.specs.CoreView.{writtens}
use Rattle.fip_trees.specs.Least.{after}
use Rattle.data_types.specs.Declarations.{all_looked_up}
use Rattle.data_types.specs.Faults.{writtens_faults}
use Rattle.data_types.specs.Numbered.{are_numbered, HasNumbers}
use Rattle.data_types.specs.View.{ty}
use Rattle.data_types.proofs.CoreForms.{onto}
use Rattle.data_types.proofs.written.Scope.+written.Given as goal

abbrev pub invariant-look_up_all-loop-written : goal.invariant-look_up_all-loop-written
invariant-look_up_all-loop-written l = record {
  found : onto (map ty l.found.items) (all_looked_up l.self (writtens (drop l.written-index l.list))) ≡ all_looked_up l.self (writtens l.list);
  numbered : HasNumbers l.self.names → are_numbered l.found.items ≡ true;
  faults : after l.least (writtens_faults l.self (writtens (drop l.written-index l.list))) ≡ after l.initial.least (writtens_faults l.self (writtens l.list));
}
