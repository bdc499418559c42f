-- That `eval` and `exec` are asked for what is required of a source: the source is the command's file, its entry is the
-- name, and the input isn't too long. `exec` prints no gauge, and its entry isn't plain.
use Rattle.std.specs.Prelude.{◌≡◌, ◌≤◌, ℕ, false, List, Some, length}
use Rattle.command_answers.specs.fip_outside.Files.{File, file_of}
use Rattle.command_answers.specs.command_library.fip_language.declared.FunKind.TheVariants.{Fun}
use Rattle.command_answers.specs.command_library.fip_language.declared.limits.TheConstants.{MOST_FILE_BYTES}
use Rattle.command_answers.specs.command_library.command_words.Words.{Request}
use Rattle.command_answers.specs.Asked.{Asked}

pub record IsEvaluated (a : Asked) (files : List File) (file : List ℕ) : Type 0 where
  pub there : file_of file files ≡ Some a.source
  pub short : length a.input ≤ MOST_FILE_BYTES

pub record IsExecuted (a : Asked) (files : List File) (r : Request) : Type 0 where
  pub there : file_of r.file files ≡ Some a.source
  pub named : r.entry ≡ a.name
  pub ungauged : r.gauge ≡ false
  pub short : length a.input ≤ MOST_FILE_BYTES
  pub compiled : (a.rooted).root.kind ≡ Fun → ⊥
