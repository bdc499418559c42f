use Rattle.std.proofs.Common.{◌≡◌, ◌-◌}
use Rattle.fip_trees.specs.Least.{after}
use Rattle.credit_check.specs.Tallies.{below, below_from}
use Rattle.credit_check.proofs.notes.note_below.Given as goal

abbrev pub invariant-loop-size : goal.invariant-loop-size
invariant-loop-size l = after l.least (below_from l.rule l.place l.instance l.one l.other l.size (17 - l.size)) ≡ after l.initial.least (below l.rule l.place l.instance l.one l.other)
