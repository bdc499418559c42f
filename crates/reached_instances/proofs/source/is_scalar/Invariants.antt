use Rattle.std.proofs.Common.{◌≡◌, map, drop}
use Rattle.closed_types.specs.Source.{all_none, is_bare}
use Rattle.closed_types.specs.DeclaredView.{constructor, declared}
use Rattle.reached_instances.proofs.source.is_scalar.Given as goal

abbrev pub invariant-loop-constructor : goal.invariant-loop-constructor
invariant-loop-constructor l = all_none (map constructor (drop l.constructor-index l.constructor-items)) ≡ is_bare (declared l.declared)
