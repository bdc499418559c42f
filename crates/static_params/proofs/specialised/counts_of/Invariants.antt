use Rattle.std.proofs.Common.{◌≡◌, ◌++◌, map, drop}
use Rattle.static_params.specs.FlatProgram.{count_tys}
use Rattle.reached_instances.specs.closed_types.Source.{Constructor}
use Rattle.reached_instances.specs.SourceView as S
use Rattle.static_params.proofs.specialised.counts_of.Given as goal

abbrev pub invariant-loop-constructor : goal.invariant-loop-constructor
invariant-loop-constructor l = l.counts.items ++ map (λ (k : Constructor). count_tys k.fields) (map S.constructor (drop l.constructor-index l.constructors)) ≡ map (λ (k : Constructor). count_tys k.fields) (map S.constructor l.constructors)
