use Rattle.compiler_correctness.proofs.SoundTypes.{typed_bool, tables_are_sound}
use Rattle.compiler_correctness.proofs.semantics_theorems.the_types_of_a_source_are_sound.Goals as goal

pub returns : goal.returns
returns c = record {
  bool = λ source program typed. typed_bool source program typed;
  tables = λ source program code typed same few names. tables_are_sound source program code typed same few names;
}
