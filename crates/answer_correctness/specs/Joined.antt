-- A run with the same entry and options on another file.
use Rattle.std.specs.Prelude.{ℕ, List}
use Rattle.command_answers.specs.command_library.command_words.Words.{Request}

abbrev pub at_file : List ℕ → Request → Request
at_file name r = record { file = name; entry = r.entry; room = r.room; gauge = r.gauge }
