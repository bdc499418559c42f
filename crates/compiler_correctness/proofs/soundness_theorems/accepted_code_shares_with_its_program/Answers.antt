use Rattle.derivation_correctness.proofs.source_report.Ready.{typed_formed}
use Rattle.compiler_correctness.proofs.SoundTypes.{typed_bool}
use Rattle.compiler_correctness.proofs.Sharing.{shared, called}
use Rattle.compiler_correctness.proofs.soundness_theorems.accepted_code_shares_with_its_program.Goals as goal

pub returns : goal.returns
returns c = record {
  shares = λ source program code st typed headed setting. shared program code st headed setting (typed_formed source program typed) (typed_bool source program typed);
  callees = λ source program code st k typed headed setting. called program code st headed setting (typed_formed source program typed) k;
}
