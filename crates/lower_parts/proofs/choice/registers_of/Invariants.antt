use Rattle.std.proofs.Common.{◌≡◌, drop, ◌++◌}
use Rattle.fip_trees.specs.TreeView.{patterns}
use Rattle.lower_frame.specs.lowering_relation.Opening.{as_many}
use Rattle.lower_frame.specs.Positions.{spots_of, past}
use Rattle.lower_parts.proofs.choice.registers_of.Given as goal

abbrev pub invariant-loop-place : goal.invariant-loop-place
invariant-loop-place l = l.registers ++ as_many (patterns (drop l.place l.patterns)) (past l.place (spots_of l.spots)) ≡ as_many (patterns l.patterns) (spots_of l.spots)
