use Rattle.std.proofs.Common.{◌≡◌, ◌++◌, map, drop}
use Rattle.fip_language.specs.Mentions.{all_of}
use Rattle.fip_base.specs.CoreView.{static}
use Rattle.static_params.specs.FlatProgram.{signature_tuple}
use Rattle.static_params.proofs.specialised.signature_tuples_of.Given as goal

abbrev pub invariant-loop-parameter : goal.invariant-loop-parameter
invariant-loop-parameter l = l.tuples.items ++ all_of signature_tuple (map static (drop l.parameter-index l.statics)) ≡ all_of signature_tuple (map static l.statics)
