use Rattle.std.proofs.Common.{◌≡◌, ◌≤◌, drop, length, map}
use Rattle.fip_trees.specs.TreeView.{program, instances}
use Rattle.derivation_trees.specs.Trees.{entry}
use Rattle.derivation_check.specs.Accepted.{AreDerived}
use Rattle.derivation_check.proofs.accept.check.Given as goal

abbrev pub invariant-loop-instance : goal.invariant-loop-instance
invariant-loop-instance l = record {
  number : l.number ≡ l.instance-index;
  inside : l.place ≤ length l.lines;
  up : AreDerived (program l.program) l.number (instances (drop l.instance-index l.instance-items)) (drop l.place (map entry l.lines)) → AreDerived (program l.program) 0 (instances l.instance-items) (map entry l.lines);
  down : AreDerived (program l.program) 0 (instances l.instance-items) (map entry l.lines) → AreDerived (program l.program) l.number (instances (drop l.instance-index l.instance-items)) (drop l.place (map entry l.lines));
}
