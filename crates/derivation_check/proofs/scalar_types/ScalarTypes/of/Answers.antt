use Rattle.std.proofs.Common.{◌∙◌, arith}
use Rattle.std.proofs.lemmas.List.{length-set}
use Rattle.derivation_check.proofs.Flags.{flags_step}
use Rattle.derivation_check.proofs.scalar_types.ScalarTypes.of.Goals as goal

pub loop-ty-preserved : goal.loop-ty-preserved
loop-ty-preserved c = record {
  long = length-set c.loop-ty.flags c.loop-ty.ty c.is_scalar_in.result ∙ c.loop-ty.invariant.long;
  flags = flags_step c.args.program.now.types c.loop-ty.flags c.loop-ty.ty c.is_scalar_in.result (let e = c.loop-ty.invariant.long in let h = c.loop-ty-test.true in omega arith) c.loop-ty.invariant.flags c.is_scalar_in.ensures.scalar;
}
