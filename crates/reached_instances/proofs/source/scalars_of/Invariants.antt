use Rattle.std.proofs.Common.{◌≡◌, ◌++◌, drop, map}
use Rattle.closed_types.specs.Source.{is_bare}
use Rattle.reached_instances.specs.SourceView as S
use Rattle.reached_instances.proofs.source.scalars_of.Given as goal

abbrev pub invariant-loop-declared : goal.invariant-loop-declared
invariant-loop-declared l = l.scalars.items ++ map is_bare (map S.declared (drop l.declared-index l.types)) ≡ map is_bare (map S.declared l.types)
