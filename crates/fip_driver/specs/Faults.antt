-- What a call of the program says where an object fails, or reports nothing: what is then delivered, whose turn had come by
-- the status, and which files may have changed.
--
-- What keeps a command from its result before the turn of an object comes (`Turns`) leaves that object as it was. A program
-- that breaks a rule is refused while its input still waits: a host can correct the source and call again.
use Rattle.std.specs.Prelude.{◌≡◌, ◌⊎◌, ℕ, List, Option, Some, None}
use Rattle.fip_outside.specs.Faults.{Rose}
use Rattle.fip_outside.specs.Files.{File}
use Rattle.command_words.specs.Words.{Command, Trace, IsCommand}
use Rattle.command_answers.specs.Answer.{Answered, host}
use Rattle.command_answers.specs.Asks.{ReadsInput, CallsNoFolder, ComesToInput, stored_name}
use Rattle.command_answers.specs.Stored.{IsStored, IsUnstored}
use Rattle.fip_driver.specs.Delivered.{Outcome, Seen, seen, Delivered}
use Rattle.fip_driver.specs.Turns.{WordsOutcome, IsCounted, HadInput}

-- an object: what it reported before a call and reports after it, where it reports something, and its counts of faults
pub record Called (A : Type 0) : Type 0 where
  pub reported : Option A
  pub reports : Option A
  pub before : ℕ
  pub after : ℕ

abbrev pub called : {T A : Type 0} → (T → Option A) → (T → ℕ) → T → T → Called A
called reports faults old new = record { reported = reports old; reports = reports new; before = faults old; after = faults new }

-- its count of faults rose
abbrev pub Failed : {A : Type 0} → Called A → Type 0
Failed x = Rose x.before x.after

abbrev pub Folder : Type 0
Folder = Called (List File)

-- an input or a sink
abbrev pub Stream : Type 0
Stream = Called (List ℕ)

-- a sink before and after a call
abbrev pub at_first : Stream → Seen
at_first sink = seen sink.reported sink.before

abbrev pub at_last : Stream → Seen
at_last sink = seen sink.reports sink.after

-- Where no count of faults rose, and the folder and the input report what they hold, the words have their answer.
abbrev pub AnswersWhole : List (List ℕ) → Folder → Stream → Stream → Stream → ℕ → Type 0
AnswersWhole words folder input out err s = (files : List File) (bytes : List ℕ) → folder.reported ≡ Some files →
    input.reported ≡ Some bytes → (Failed folder → ⊥) → (Failed input → ⊥) → (Failed out → ⊥) → (Failed err → ⊥) →
    Answered words files bytes (host out.reported out.reports err.reported err.reports folder.reports s)

-- The words ask for a command that doesn't read the input.
abbrev pub LeavesInput : List (List ℕ) → Type 0
LeavesInput words = (c : Command) × IsCommand words c × (ReadsInput c → ⊥)

-- ---- by the status

-- a refusal of the words, or of a source, a code or a trace
abbrev pub IsEarly : ℕ → Type 0
IsEarly s = (s ≡ 1) ⊎ ((s ≡ 2) ⊎ (s ≡ 8))

abbrev pub MayHaveRead : Command → ℕ → Type 0
MayHaveRead (Trace file entry out room) s = ((s ≡ 2) ⊎ (s ≡ 8)) → ⊥
MayHaveRead c s = IsEarly s → ⊥

-- The words ask for a command that reads the input, and weren't refused, nor was a source or a code. So a run of a
-- source that breaks E40, or of a file that isn't there, leaves it, also where memory ran out.
abbrev pub HasRead : List (List ℕ) → Option (List File) → ℕ → Type 0
HasRead words files s = (c : Command) × IsCommand words c × ReadsInput c × MayHaveRead c s × ComesToInput c files

-- The words ask for a command that calls the folder, and weren't refused.
abbrev pub HasCalled : List (List ℕ) → ℕ → Type 0
HasCalled words s = (c : Command) × IsCommand words c × (CallsNoFolder c → ⊥) × (s ≡ 2 → ⊥)

-- The files after a command that stores under this name, or under none. At status 0 its file is stored, and at 9 where
-- out failed after that. Else nothing was written to out, and all files are as they were; but at 9, where the file was
-- made and the folder failed to store it, no more is said than that each other file is. So `compile missing.fp o`
-- leaves o, and `compile rev.fp o` stores it, also where out fails.
abbrev pub AreAfter : Command → Option (List ℕ) → Option (List ℕ) → Type 0 → Seen → Seen → Option (List File) →
    Option (List File) → ℕ → Type 0
AreAfter c left None rose out out' old new s = new ≡ old
AreAfter c left (Some name) rose out out' old new s =
    (IsStored c left name old new × ((s ≡ 0) ⊎ ((s ≡ 9) × Rose out.faults out'.faults)))
    ⊎ ((out' ≡ out) × (((s ≡ 0 → ⊥) × (new ≡ old)) ⊎ ((s ≡ 9) × rose × IsUnstored c left name old new)))

abbrev pub FilesAfter : Command → Folder → Stream → Stream → ℕ → Type 0
FilesAfter c folder input out s =
    AreAfter c input.reported (stored_name c) (Failed folder) (at_first out) (at_last out) folder.reported folder.reports s

-- Whatever fails: just what the words end in is delivered to the sinks; where that is before the input's turn, the
-- input is untouched; and a fault of a folder that reports nothing is one that it counted.
abbrev pub Delivers : List (List ℕ) → Folder → Stream → Stream → Stream → Type 0 → ℕ → Type 0
Delivers words folder input out err untouched s = (o : Outcome) × (untouched ⊎ HadInput words folder.reported o)
    × WordsOutcome words folder.reported input.reported (Failed folder) (Failed input) o
    × IsCounted folder.reported (Failed folder) o × Delivered (at_first out) (at_last out) (at_first err) (at_last err) o s
