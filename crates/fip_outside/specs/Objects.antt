-- The objects in memory: how they count their calls, which calls fail, and how many bytes a call moves.
use Rattle.std.specs.Prelude.{◌≡◌, ℕ, ◌-◌, ◌≤◌, min, max, List, [], ◌++◌, length, drop, Option, Some, None, Contains}
use Rattle.std.specs.Prelude.{slice_get}
use Rattle.fip_outside.specs.Faults.{one_more}
use Rattle.fip_outside.specs.Files.{File, put_file}

-- The calls of an object: the numbers of those that are to fail, how many were made, and how often one failed by its
-- number or by a full sink.
pub record CallLog : Type 0 where
  pub fails : List ℕ
  pub made : ℕ
  pub faults : ℕ

-- The calls of a new object.
abbrev pub no_calls : List ℕ → CallLog
no_calls fails = record { fails = fails; made = 0; faults = 0 }

-- The number of the next call. Calls are numbered from 1; the number stays at the greatest of 64 bits.
abbrev pub next_call : CallLog → ℕ
next_call log = one_more log.made

-- The next call is one that is to fail.
abbrev pub IsToFail : CallLog → Type 0
IsToFail log = Contains log.fails (next_call log)

-- The calls after one more.
abbrev pub counted : CallLog → CallLog
counted log = record log { made = next_call log }

-- The calls after one more, which raised the count of faults.
abbrev pub failed : CallLog → CallLog
failed log = record log { made = next_call log; faults = one_more log.faults }

-- How many bytes a call moves where a piece is given for it or not, and so many could be moved. A piece of 0 counts as
-- 1.
abbrev pub within_piece : Option ℕ → ℕ → ℕ
within_piece None room = room
within_piece (Some piece) room = min room (max piece 1)

-- How many bytes the call of this number moves, where so many could be moved. The first piece is for the call 1; a call
-- past the list's end moves all: `moved (5 ∷ []) 1 64` is 5, and `moved (5 ∷ []) 2 64` is 64.
abbrev pub moved : List ℕ → ℕ → ℕ → ℕ
moved pieces number room = within_piece (slice_get pieces (number - 1)) room

-- A source in memory: the bytes that are left.
pub record SourceState : Type 0 where
  pub bytes : List ℕ
  pub pieces : List ℕ
  pub calls : CallLog

-- A new source.
abbrev pub new_source : List ℕ → List ℕ → List ℕ → SourceState
new_source bytes pieces fails = record { bytes = bytes; pieces = pieces; calls = no_calls fails }

-- How many bytes the next read gives for a buffer of so many.
abbrev pub given : SourceState → ℕ → ℕ
given source buffer = moved source.pieces (next_call source.calls) (min buffer (length source.bytes))

-- The source after a read that gave so many bytes.
abbrev pub after_read : SourceState → ℕ → SourceState
after_read source count = record source { bytes = drop count source.bytes; calls = counted source.calls }

-- The source after a read that failed.
abbrev pub after_failed_read : SourceState → SourceState
after_failed_read source = record source { calls = failed source.calls }

-- A sink in memory: the bytes that were written, and how many there may be.
pub record SinkState : Type 0 where
  pub bytes : List ℕ
  pub room : ℕ
  pub pieces : List ℕ
  pub calls : CallLog

-- A new sink, to which nothing was written.
abbrev pub new_sink : ℕ → List ℕ → List ℕ → SinkState
new_sink room pieces fails = record { bytes = []; room = room; pieces = pieces; calls = no_calls fails }

-- The sink is full, and there is something to write.
abbrev pub IsFullFor : SinkState → List ℕ → Type 0
IsFullFor sink piece = (sink.room ≤ length sink.bytes) × (piece ≡ [] → ⊥)

-- How many bytes the next write takes of a piece of so many.
abbrev pub taken : SinkState → ℕ → ℕ
taken sink piece = moved sink.pieces (next_call sink.calls) (min piece (sink.room - length sink.bytes))

-- The sink after a write that took these bytes.
abbrev pub after_write : SinkState → List ℕ → SinkState
after_write sink bytes = record sink { bytes = sink.bytes ++ bytes; calls = counted sink.calls }

-- The sink after a write that failed.
abbrev pub after_failed_write : SinkState → SinkState
after_failed_write sink = record sink { calls = failed sink.calls }

-- A folder in memory. It numbers its fetches and stores together.
pub record FolderState : Type 0 where
  pub files : List File
  pub calls : CallLog

-- A new folder.
abbrev pub new_folder : List File → List ℕ → FolderState
new_folder files fails = record { files = files; calls = no_calls fails }

-- The folder after a call that changed no file.
abbrev pub after_call : FolderState → FolderState
after_call folder = record folder { calls = counted folder.calls }

-- The folder after a call that failed by its number.
abbrev pub after_failed_call : FolderState → FolderState
after_failed_call folder = record folder { calls = failed folder.calls }

-- The folder after these bytes were stored.
abbrev pub after_store : FolderState → List ℕ → List ℕ → FolderState
after_store folder name bytes = record folder { files = put_file name bytes folder.files; calls = counted folder.calls }
