use Rattle.std.proofs.Common.{◌≡◌, ◌++◌, drop, map}
use Rattle.fip_base.specs.fip_language.Mentions.{all_of}
use Rattle.fip_base.specs.CoreView as V
use Rattle.closed_types.specs.TypeInstances.{written_in_static}
use Rattle.reached_instances.proofs.source.add_signatures.Given as goal

abbrev pub invariant-loop-parameter : goal.invariant-loop-parameter
invariant-loop-parameter l = map (λ w. V.written w.now) l.header.items ++ all_of written_in_static (map V.static (drop l.parameter-index l.list)) ≡ map (λ w. V.written w.now) l.initial.header.items ++ all_of written_in_static (map V.static l.list)
