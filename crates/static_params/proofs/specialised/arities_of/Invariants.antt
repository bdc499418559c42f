use Rattle.std.proofs.Common.{◌≡◌, ◌++◌, map, drop}
use Rattle.reached_instances.specs.closed_types.Source.{Declared}
use Rattle.reached_instances.specs.SourceView as S
use Rattle.static_params.proofs.specialised.arities_of.Given as goal

abbrev pub invariant-loop-declared : goal.invariant-loop-declared
invariant-loop-declared l = l.arities.items ++ map (λ (d : Declared). d.arity) (map S.declared (drop l.declared-index l.types)) ≡ map (λ (d : Declared). d.arity) (map S.declared l.types)
