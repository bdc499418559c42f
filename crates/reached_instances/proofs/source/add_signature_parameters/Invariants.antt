use Rattle.std.proofs.Common.{◌≡◌, ◌++◌, drop, map}
use Rattle.fip_base.specs.fip_language.Core as F
use Rattle.fip_base.specs.CoreView as V
use Rattle.reached_instances.proofs.source.add_signature_parameters.Given as goal

abbrev pub invariant-loop-parameter : goal.invariant-loop-parameter
invariant-loop-parameter l = map (λ w. V.written w.now) l.header.items ++ map (λ (p : F.SignatureParameter). p.type) (map V.signature_parameter (drop l.parameter-index l.list)) ≡ map (λ w. V.written w.now) l.initial.header.items ++ map (λ (p : F.SignatureParameter). p.type) (map V.signature_parameter l.list)
