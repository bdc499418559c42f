-- An end, and what is stored where there is a text, make a whole answer: it is shown, and the file is put under its name.
use Rattle.std.proofs.Common.{◌≡◌, ◌++◌, ℕ, List, Option, Some, None, refl}
use Rattle.std.specs.Prelude.{Ok, Err}
use Rattle.command_answers.specs.command_library.command_words.Words.{Command}
use Rattle.command_answers.specs.command_library.command_outcome.Failures.{failure_status, failure_text}
use Rattle.command_answers.specs.command_library.command_outcome.declared.failure.Failure.{Failure}
use Rattle.command_answers.specs.fip_outside.Files.{File, put_file}
use Rattle.command_answers.proofs.fip_outside.Stored.{file_of-put_file, file_of-put_file-other}
use Rattle.command_answers.specs.Answer.{Host, ComesTo, IsAnswer, host}
use Rattle.command_answers.specs.Asks.{stored_name}
use Rattle.command_answers.specs.Exec.{End}
use Rattle.command_answers.specs.Stored.{IsMadeBy, Stores}
use Rattle.answer_correctness.specs.Alike.{Finds}

abbrev files_after : Option (List ℕ) → List ℕ → List File → List File
files_after None bytes files = files
files_after (Some name) bytes files = put_file name bytes files

stored : (c : Command) (files : List File) (input text bytes : List ℕ) (name : Option (List ℕ)) → IsMadeBy c (Some input) (Some files) bytes → Stores c files input name (Ok text) (Some (files_after name bytes files))
stored c files input text bytes None made = refl
stored c files input text bytes (Some name) made = record {
  others = λ other differs. file_of-put_file-other name other bytes files differs;
  bytes = bytes;
  there = file_of-put_file name bytes files;
  made = made;
}

kept : (c : Command) (files : List File) (input : List ℕ) (name : Option (List ℕ)) (f : Failure) → Stores c files input name (Err f) (Some files)
kept c files input None f = refl
kept c files input (Some name) f = refl

pub whole : (c : Command) (files : List File) (input out err : List ℕ) (e : End) → ComesTo files input c e → ((text : List ℕ) → e ≡ Ok text → (bytes : List ℕ) × IsMadeBy c (Some input) (Some files) bytes) → (h : Host) × Finds h out err × IsAnswer c files input h
whole c files input out err (Ok text) comes made =
    let bytes = made text refl in (
      host (Some out) (Some (out ++ text)) (Some err) (Some err) (Some (files_after (stored_name c) bytes.0 files)) 0,
      record { on_out = refl; on_err = refl },
      record { end = Ok text; ends = comes; shown = (refl, refl, refl); stored = stored c files input text bytes.0 (stored_name c) bytes.1 },
    )
whole c files input out err (Err f) comes made = (
  host (Some out) (Some out) (Some err) (Some (err ++ failure_text f)) (Some files) (failure_status f),
  record { on_out = refl; on_err = refl },
  record { end = Err f; ends = comes; shown = (refl, refl, refl); stored = kept c files input (stored_name c) f },
)
