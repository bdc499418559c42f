use Rattle.std.proofs.Common.{◌≡◌, drop}
use Rattle.derivation_walk.specs.Seen.{world_of, seen_of, bind_all}
use Rattle.derivation_walk.proofs.found.bind_all.Given as goal

abbrev pub invariant-loop-binder : goal.invariant-loop-binder
invariant-loop-binder l = bind_all (world_of l.context) (seen_of l.found) (drop l.binder-index l.binders) ≡ bind_all (world_of l.context) (seen_of l.initial.found) l.binders
