-- The files that a folder in memory is made of, as pairs of a name and bytes.
use Rattle.std.specs.Prelude.{ℕ, List, map, String, Vec, string_bytes}
use Rattle.std.specs.Global.{Global}
use Rattle.fip_outside.specs.Files.{File}

-- A name and bytes as the program holds them.
abbrev pub Entry : Type 0
Entry = String Global × Vec ℕ Global

-- The file that an entry stands for.
abbrev pub file_in : Entry → File
file_in entry = record { name = string_bytes entry.0; bytes = entry.1.items }

-- The files of a list of entries.
abbrev pub files_in : List Entry → List File
files_in entries = map file_in entries
