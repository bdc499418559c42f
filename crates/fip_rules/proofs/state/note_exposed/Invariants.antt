use Rattle.std.proofs.Common.{◌≡◌, map, drop}
use Rattle.fip_trees.specs.Least.{after}
use Rattle.fip_rules.specs.Marks.{reported}
use Rattle.fip_rules.specs.Notes.{exposed}
use Rattle.fip_rules.specs.Views.{mark_of}
use Rattle.fip_rules.proofs.state.note_exposed.Given as goal

abbrev pub invariant-loop-mark : goal.invariant-loop-mark
invariant-loop-mark l = after l.least (map reported (exposed l.instance (map mark_of (drop l.mark-index l.mark-items)) (drop l.kept l.used))) ≡ after l.initial.least (map reported (exposed l.instance (map mark_of l.mark-items) (drop l.kept l.used)))
