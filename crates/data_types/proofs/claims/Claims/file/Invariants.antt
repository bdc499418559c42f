use Rattle.std.proofs.Common.{◌≡◌, ◌+◌, ◌-◌, length}
use Rattle.data_types.specs.ClaimView.{claims}
use Rattle.data_types.proofs.Sets.{state}
use Rattle.data_types.proofs.claims.Claims.file.Given as goal

abbrev pub invariant-loop-alloc : goal.invariant-loop-alloc
invariant-loop-alloc l = state (claims l.self-inside.claims.items) l.self-inside.todo.items ≡ state (claims l.initial.self-inside.claims.items) l.initial.self-inside.todo.items

abbrev pub decreases-loop-alloc : goal.decreases-loop-alloc
decreases-loop-alloc l = l.ty + 1 - length l.self-inside.by_type.items
