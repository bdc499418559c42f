use Rattle.std.proofs.Common.{◌≡◌, ℕ, ◌-◌, ◌+◌, get_or, length, None}
use Rattle.fip_rules.proofs.log.make_room.Given as goal

abbrev pub invariant-loop-table : goal.invariant-loop-table
invariant-loop-table l = (y : ℕ) → get_or l.table.items y None ≡ get_or l.initial.table.items y None

abbrev pub decreases-loop-table : goal.decreases-loop-table
decreases-loop-table l = l.number + 1 - length l.table.items
