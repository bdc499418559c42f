-- The examples, by computation alone.
use Rattle.std.proofs.Common.{◌≡◌, [], ◌∷◌, refl}
use Rattle.tree_refinement.specs.machine_semantics.Example.{flat}
use Rattle.run_loading.specs.Loading.{first_store, first_words}
use Rattle.run_loading.specs.TraceText.{big_endian, trace_text}
use Rattle.run_loading.specs.TraceReading.{Got, Bad, read_number, read_trace}
use Rattle.run_loading.specs.Example.{arguments, rewriting, file_with}

pub arguments_lie : first_store arguments [] ≡ flat
arguments_lie = refl

pub arguments_are : first_words arguments [] ≡ 7 ∷ 0 ∷ []
arguments_are = refl

pub credits_are : first_words arguments (2 ∷ []) ≡ 7 ∷ 0 ∷ 13 ∷ []
credits_are = refl

pub file_is : trace_text rewriting ≡ file_with 0
unfolding big_endian
file_is = refl

pub file_is_read : read_trace (file_with 0) ≡ Got rewriting 80 []
unfolding read_number
file_is_read = refl

pub other_file_is_bad : read_trace (file_with 2) ≡ Bad 47
unfolding read_number
other_file_is_bad = refl

pub no_bytes_are_bad : read_trace [] ≡ Bad 0
no_bytes_are_bad = refl

pub ruleset computed = (
  arguments_lie,
  arguments_are,
  credits_are,
  file_is,
  file_is_read,
  other_file_is_bad,
  no_bytes_are_bad,
)
