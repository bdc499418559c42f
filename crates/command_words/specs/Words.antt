-- The written command line, and what words ask for.
-- fp2 exec FILE ENTRY [--calls N] [--frames N] [--words N] [--gauge], and fourteen further commands.
use Rattle.std.specs.Prelude.{◌≡◌, ◌⊎◌, ℕ, ◌^◌, ◌<◌, ◌≤◌, List, [], ◌∷◌, Some, Bool, true, false, codes}
use Rattle.std.specs.Str.Parse.{IsNumeral, digits_value, without_leading_plus}
use Rattle.fip_language.specs.declared.limits.TheConstants.{MOST_CALLS, MOST_FRAMES, MOST_STORE_WORDS}
use Rattle.clap.specs.Words.{App, Row, Rule, Text, fault_of, first_of, one_of, subcommand_of, new_rule, with_rule}
use Rattle.clap.specs.Words.{with_subcommand}
use Rattle.clap.specs.Simple.{new_shape}
use Rattle.clap.specs.declared.builder.action.ArgAction.TheVariants.{SetTrue}
use Rattle.clap.specs.declared.builder.value_parser.ValueParser.TheVariants as vp

-- ---- the parts of a command

-- a word that must stand there
abbrev pub word : Text → Rule
word id = record (new_rule id) { required = true }

-- a number in such a range that must stand there
abbrev pub number_word : Text → ℕ → ℕ → Rule
number_word id least most = record (new_rule id) { required = true; parser = Some (vp.Unsigned least most) }

-- an option with a number from 0 to the most
abbrev pub number_option : Text → ℕ → Text → Rule
number_option id most preset = record (new_rule id) {
  long = Some id;
  parser = Some (vp.Unsigned 0 most);
  defaults = preset ∷ [];
}

abbrev pub flag : Text → Rule
flag id = record (new_rule id) { long = Some id; action = Some SetTrue }

-- a command without help
abbrev pub bare : Text → App
bare name = record { top = record (new_shape name) { disable_help_flag = true }; subs = [] }

abbrev pub most_calls : ℕ
most_calls = MOST_CALLS

abbrev pub most_frames : ℕ
most_frames = MOST_FRAMES

abbrev pub most_words : ℕ
most_words = MOST_STORE_WORDS

abbrev pub most_seed : ℕ
most_seed = 2147483647

abbrev pub most_count : ℕ
most_count = 100000

abbrev pub most_turns : ℕ
most_turns = 1000000

abbrev pub most_step : ℕ
most_step = 1000000000000000000

-- ---- the commands

abbrev pub one_word : Text → Text → App
one_word name first = with_rule (bare name) (word first)

abbrev pub two_words : Text → Text → Text → App
two_words name first second = with_rule (one_word name first) (word second)

abbrev pub with_calls : App → App
with_calls a = with_rule a (number_option (codes "calls") most_calls (codes "1000000000"))

abbrev pub with_frames : App → App
with_frames a = with_rule a (number_option (codes "frames") most_frames (codes "10000"))

abbrev pub with_words : App → App
with_words a = with_rule a (number_option (codes "words") most_words (codes "1048576"))

-- the calls, the frames and the words of the store that a run is given
abbrev pub with_room : App → App
with_room a = with_words (with_frames (with_calls a))

abbrev pub with_gauge : App → App
with_gauge a = with_rule a (flag (codes "gauge"))

abbrev pub check_app : App
check_app = one_word (codes "check") (codes "FILE")

abbrev pub compile_app : App
compile_app = two_words (codes "compile") (codes "FILE") (codes "OUT")

abbrev pub verify_app : App
verify_app = one_word (codes "verify") (codes "FILE")

abbrev pub exec_app : App
exec_app = with_gauge (with_room (two_words (codes "exec") (codes "FILE") (codes "ENTRY")))

abbrev pub run_app : App
run_app = with_gauge (with_room (two_words (codes "run") (codes "FILE") (codes "ENTRY")))

abbrev pub eval_app : App
eval_app = with_frames (with_calls (two_words (codes "eval") (codes "FILE") (codes "ENTRY")))

abbrev pub library_app : App
library_app = one_word (codes "library") (codes "NAME")

abbrev pub gen_app : App
gen_app = with_rule (with_rule (bare (codes "gen")) (number_word (codes "SEED") 0 most_seed))
    (number_word (codes "COUNT") 1 most_count)

abbrev pub upgrade_app : App
upgrade_app = two_words (codes "upgrade") (codes "FILE") (codes "OUT")

abbrev pub session_app : App
session_app = with_room (one_word (codes "session") (codes "FILE"))

abbrev pub tasks_words_app : App
tasks_words_app = with_rule (with_rule (one_word (codes "tasks") (codes "FILE"))
    (number_word (codes "SEED") 0 most_seed)) (number_word (codes "TURNS") 0 most_turns)

abbrev pub tasks_app : App
tasks_app = with_room tasks_words_app

abbrev pub derive_app : App
derive_app = two_words (codes "derive") (codes "FILE") (codes "OUT")

abbrev pub audit_app : App
audit_app = two_words (codes "audit") (codes "FILE") (codes "PROOF")

abbrev pub trace_app : App
trace_app = with_room (with_rule (two_words (codes "trace") (codes "FILE") (codes "ENTRY")) (word (codes "OUT")))

abbrev pub replay_app : App
replay_app = with_rule (one_word (codes "replay") (codes "TRACE")) (number_word (codes "STEP") 0 most_step)

abbrev pub top_app : App
top_app = record {
  top = record (new_shape (codes "fp2")) {
    disable_help_flag = true;
    disable_help_subcommand =
        true;
    subcommand_required = true;
  };
  subs = [];
}

unfoldable pub check_commands : App
check_commands = with_subcommand (with_subcommand top_app check_app.top) compile_app.top

unfoldable pub file_commands : App
file_commands = with_subcommand (with_subcommand check_commands verify_app.top) upgrade_app.top

unfoldable pub machine_commands : App
machine_commands = with_subcommand (with_subcommand file_commands exec_app.top) run_app.top

unfoldable pub run_commands : App
run_commands = with_subcommand (with_subcommand machine_commands eval_app.top) trace_app.top

unfoldable pub line_commands : App
line_commands = with_subcommand (with_subcommand run_commands session_app.top) tasks_app.top

unfoldable pub proof_commands : App
proof_commands = with_subcommand (with_subcommand line_commands derive_app.top) audit_app.top

unfoldable pub paper_commands : App
paper_commands = with_subcommand (with_subcommand proof_commands replay_app.top) library_app.top

-- the whole command line
abbrev pub command_app : App
command_app = with_subcommand paper_commands gen_app.top

-- ---- what words ask for

-- the number of an argument, in decimal digits before which a + may stand; it is in the range
pub record IsNumberIn (id : Text) (least most : ℕ) (rows : List Row) (n : ℕ) : Type 0 where
  pub text : Text
  pub given : one_of id rows ≡ Some text
  pub numeral : IsNumeral 10 (without_leading_plus text)
  pub value : n ≡ digits_value 10 (without_leading_plus text)
  -- as a number is read into 64 bits
  pub fits : n < 2 ^ 64
  pub above : least ≤ n
  pub within : n ≤ most

abbrev pub flag_text : Bool → Text
flag_text true = codes "true"
flag_text false = codes "false"

-- the calls, the frames beside the entry's and the words of the store that a run is given
pub record Room : Type 0 where
  pub calls : ℕ
  pub frames : ℕ
  pub words : ℕ

-- what `exec` and `run` ask for: the file and the entry, the room of the run, and whether the gauge is printed
pub record Request : Type 0 where
  pub file : Text
  pub entry : Text
  pub room : Room
  pub gauge : Bool

-- what words ask for
pub data Command : Type 0 where
  Check : (file : Text) → Command
  Compile : (file out : Text) → Command
  Verify : (file : Text) → Command
  Upgrade : (file out : Text) → Command
  Exec : (r : Request) → Command
  Run : (r : Request) → Command
  Eval : (file entry : Text) (calls frames : ℕ) → Command
  Trace : (file entry out : Text) (room : Room) → Command
  Session : (file : Text) (room : Room) → Command
  Tasks : (file : Text) (seed turns : ℕ) (room : Room) → Command
  Derive : (file out : Text) → Command
  Audit : (file proof : Text) → Command
  Replay : (trace : Text) (step : ℕ) → Command
  Library : (name : Text) → Command
  Gen : (seed count : ℕ) → Command

abbrev pub command_name : Command → Text
command_name (Check file) = codes "check"
command_name (Compile file out) = codes "compile"
command_name (Verify file) = codes "verify"
command_name (Upgrade file out) = codes "upgrade"
command_name (Exec r) = codes "exec"
command_name (Run r) = codes "run"
command_name (Eval file entry calls frames) = codes "eval"
command_name (Trace file entry out room) = codes "trace"
command_name (Session file room) = codes "session"
command_name (Tasks file seed turns room) = codes "tasks"
command_name (Derive file out) = codes "derive"
command_name (Audit file proof) = codes "audit"
command_name (Replay trace step) = codes "replay"
command_name (Library name) = codes "library"
command_name (Gen seed count) = codes "gen"

abbrev pub IsWord : Text → List Row → Text → Type 0
IsWord id rows t = first_of id rows ≡ Some t

pub record AreWords (first second : Text) (rows : List Row) (x y : Text) : Type 0 where
  pub one : IsWord first rows x
  pub two : IsWord second rows y

pub record IsRoom (rows : List Row) (r : Room) : Type 0 where
  pub calls : IsNumberIn (codes "calls") 0 most_calls rows r.calls
  pub frames : IsNumberIn (codes "frames") 0 most_frames rows r.frames
  pub words : IsNumberIn (codes "words") 0 most_words rows r.words

pub record AsksToRun (rows : List Row) (r : Request) : Type 0 where
  pub file : IsWord (codes "FILE") rows r.file
  pub entry : IsWord (codes "ENTRY") rows r.entry
  pub room : IsRoom rows r.room
  pub gauge : one_of (codes "gauge") rows ≡ Some (flag_text r.gauge)

pub record AsksToEvaluate (rows : List Row) (f e : Text) (n d : ℕ) : Type 0 where
  pub file : IsWord (codes "FILE") rows f
  pub entry : IsWord (codes "ENTRY") rows e
  pub calls : IsNumberIn (codes "calls") 0 most_calls rows n
  pub frames : IsNumberIn (codes "frames") 0 most_frames rows d

pub record AsksToTrace (rows : List Row) (f e o : Text) (r : Room) : Type 0 where
  pub file : IsWord (codes "FILE") rows f
  pub entry : IsWord (codes "ENTRY") rows e
  pub out : IsWord (codes "OUT") rows o
  pub room : IsRoom rows r

pub record AsksToTalk (rows : List Row) (f : Text) (r : Room) : Type 0 where
  pub file : IsWord (codes "FILE") rows f
  pub room : IsRoom rows r

pub record AsksForTasks (rows : List Row) (f : Text) (s t : ℕ) (r : Room) : Type 0 where
  pub file : IsWord (codes "FILE") rows f
  pub seed : IsNumberIn (codes "SEED") 0 most_seed rows s
  pub turns : IsNumberIn (codes "TURNS") 0 most_turns rows t
  pub room : IsRoom rows r

pub record AsksToReplay (rows : List Row) (t : Text) (s : ℕ) : Type 0 where
  pub trace : IsWord (codes "TRACE") rows t
  pub step : IsNumberIn (codes "STEP") 0 most_step rows s

-- the texts of the library
abbrev pub IsTextName : Text → Type 0
IsTextName name = (name ≡ codes "list") ⊎ ((name ≡ codes "tree") ⊎ ((name ≡ codes "rbtree") ⊎ (name ≡ codes "finger")))

pub record AsksForText (rows : List Row) (n : Text) : Type 0 where
  pub name : IsWord (codes "NAME") rows n
  pub known : IsTextName n

pub record AsksToGenerate (rows : List Row) (s n : ℕ) : Type 0 where
  pub seed : IsNumberIn (codes "SEED") 0 most_seed rows s
  pub count : IsNumberIn (codes "COUNT") 1 most_count rows n

-- What stands after a command's name asks for this.
abbrev pub AsksFor : List Row → Command → Type 0
AsksFor rows (Check file) = IsWord (codes "FILE") rows file
AsksFor rows (Compile file out) = AreWords (codes "FILE") (codes "OUT") rows file out
AsksFor rows (Verify file) = IsWord (codes "FILE") rows file
AsksFor rows (Upgrade file out) = AreWords (codes "FILE") (codes "OUT") rows file out
AsksFor rows (Exec r) = AsksToRun rows r
AsksFor rows (Run r) = AsksToRun rows r
AsksFor rows (Eval file entry calls frames) = AsksToEvaluate rows file entry calls frames
AsksFor rows (Trace file entry out room) = AsksToTrace rows file entry out room
AsksFor rows (Session file room) = AsksToTalk rows file room
AsksFor rows (Tasks file seed turns room) = AsksForTasks rows file seed turns room
AsksFor rows (Derive file out) = AreWords (codes "FILE") (codes "OUT") rows file out
AsksFor rows (Audit file proof) = AreWords (codes "FILE") (codes "PROOF") rows file proof
AsksFor rows (Replay trace step) = AsksToReplay rows trace step
AsksFor rows (Library name) = AsksForText rows name
AsksFor rows (Gen seed count) = AsksToGenerate rows seed count

-- What stands after this name asks for this, whose name it is.
pub record IsAsked (rows : List Row) (name : Text) (c : Command) : Type 0 where
  pub named : name ≡ command_name c
  pub asks : AsksFor rows c

-- The words are a command, and ask for this.
pub record IsCommand (words : List Text) (c : Command) : Type 0 where
  pub accepted : fault_of command_app words ≡ []
  pub rows : List Row
  pub command : subcommand_of command_app words ≡ Some (command_name c, rows)
  pub asks : AsksFor rows c
