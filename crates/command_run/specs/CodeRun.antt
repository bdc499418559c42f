-- What `run` ends in on the file of a sound code that has the entry, once the input is read: what the instruction
-- semantics gives, whoever wrote the code.
--
-- The input is the text of the function's arguments, a line for each parameter, by the types of the code; where it is
-- none, it is reported as bad, at the least offset with which none goes on. The store must have the words for the cells
-- of the arguments and of the header's credits: k + 1 for each cell of size k; where it has fewer, both numbers are
-- reported. Else the function runs, from a state in which just these cells lie in the store; a fip one has the frames
-- that it needs. The run ends: with words, which stand for values that are printed, and after them the lines of the
-- gauge over all its states, where these are asked for; or with a trap, or out of calls or frames.
--
-- The file of the reversal of a list prints `Cons(2, Cons(1, Nil))` on the input `Cons(1, Cons(2, Nil))` and `Nil`;
-- with 5 words the store is too small, since 6 are needed, and with 2 calls it is out of calls.
use Rattle.std.specs.Prelude.{◌≡◌, ◌+◌, ◌<◌, ◌≤◌, ℕ, Bool, true, false, List, [], ◌++◌, Option, Some}
use Rattle.std.specs.Prelude.{Result, Ok, Err}
use Rattle.fip_language.specs.Gauge.{Seen}
use Rattle.fip_language.specs.Prefix.{IsPlace}
use Rattle.fip_language.specs.PrintedText.{printed_lines}
use Rattle.fip_language.specs.Table.{Table}
use Rattle.fip_language.specs.Values.{Values, words_needed_by_all}
use Rattle.fip_language.specs.ValueText.{SpellsValues}
use Rattle.fip_base.specs.declared.plain.Stack.{Stack}
use Rattle.command_words.specs.Words.{Room}
use Rattle.command_outcome.specs.declared.failure.Failure.{Failure}
use Rattle.command_outcome.specs.declared.failure.Failure.TheVariants as F
use Rattle.code_verify.specs.cell_code.Plain.{PlainFunction, PlainCode, function_at}
use Rattle.command_eval.specs.machine_correctness.machine_semantics.Gauges.{seen}
use Rattle.command_eval.specs.machine_correctness.machine_semantics.Runs.{End, Ends, Value, Trap, Out, Deep, Unsound}
use Rattle.command_eval.specs.machine_correctness.machine_semantics.Runs.{begun}
use Rattle.command_eval.specs.machine_correctness.machine_semantics.States.{State}
use Rattle.command_eval.specs.machine_correctness.machine_semantics.Steps.{Kinds}
use Rattle.command_eval.specs.machine_correctness.separation.Starts.{IsStart}
use Rattle.command_eval.specs.machine_correctness.code_rules.StackNumbers.{HasStack}
use Rattle.command_eval.specs.machine_correctness.tree_refinement.Endings.{AreWordsOf}
use Rattle.command_eval.specs.machine_correctness.tree_refinement.Runs.{BeginsWith}
use Rattle.command_eval.specs.machine_correctness.run_loading.Loading.{words_of_credits}
use Rattle.session_semantics.specs.Talk.{frames_of}
use Rattle.value_text.specs.ParameterTypes.{types_of}
use Rattle.command_eval.specs.command_source.Codes.{IsSoundFile}
use Rattle.command_run.specs.GaugeText.{gauge_by_states, if_asked}

-- the words that a store must have for these arguments and credits
abbrev pub words_for : Values → List ℕ → ℕ
words_for vs credits = words_needed_by_all vs + words_of_credits credits

-- Function n of a sound code runs on these arguments, with a cell for each credit of its header, so many calls and free
-- frames, to its end.
pub record Run (c : PlainCode) (n : ℕ) (vs : Values) (calls frames : ℕ) : Type 0 where
  pub before : Kinds
  pub waits : Kinds
  pub first : State
  pub starts : IsStart c before waits n [] first
  pub arguments : BeginsWith c n first vs
  pub free : first.free ≡ frames
  pub end : End
  pub last : State
  pub left : ℕ
  pub steps : ℕ
  pub ends : Ends before c first calls end last left steps

-- what is seen of its states, from the first to the last
abbrev pub all_seen : {c : PlainCode} {n : ℕ} {vs : Values} {calls frames : ℕ} → Run c n vs calls frames → List Seen
all_seen {c = c} {calls = calls} r = seen r.before c (r.ends).enough (begun r.first calls)

-- a code file, its function of a name that isn't empty, and what runs of this hold of the stack at the most
pub record Chosen (bytes name : List ℕ) : Type 0 where
  pub code : PlainCode
  pub file : IsSoundFile bytes code
  pub number : ℕ
  pub function : PlainFunction
  pub there : function_at code number ≡ Some function
  pub named : function.name ≡ name
  pub some : name ≡ [] → ⊥
  pub held : Option Stack
  pub stack : HasStack code number held

abbrev pub SpellsFor : {bytes name : List ℕ} → Chosen bytes name → List ℕ → Values → Type 0
SpellsFor c input vs = SpellsValues (c.code).types (types_of (c.function).params) input vs

abbrev pub words_of : {bytes name : List ℕ} → Chosen bytes name → Values → ℕ
words_of c vs = words_for vs (c.function).credits

-- the frames of the run
abbrev pub frames_for : {bytes name : List ℕ} → Chosen bytes name → Room → ℕ
frames_for c room = frames_of room.frames c.held

abbrev pub RunOf : {bytes name : List ℕ} → Chosen bytes name → Values → Room → Type 0
RunOf c vs room = Run c.code c.number vs room.calls (frames_for c room)

-- how the end of a run is reported, in its last state, where words of results have these types, so many calls and
-- frames were given, and these lines are after values; no run of sound code ends because an instruction can't be done
abbrev pub ReportsCode : Table → List ℕ → ℕ → ℕ → List ℕ → State → End → Result (List ℕ) Failure → Type 0
ReportsCode types results calls frames following last (Value words) e =
    (vs : Values) × AreWordsOf types last.store results words vs × (e ≡ Ok (printed_lines types results vs ++ following))
ReportsCode types results calls frames following last (Trap kind line col) e = e ≡ Err (F.Trap kind line col)
ReportsCode types results calls frames following last Out e = e ≡ Err (F.OutOfCalls calls)
ReportsCode types results calls frames following last Deep e = e ≡ Err (F.OutOfFrames frames)
ReportsCode types results calls frames following last Unsound e = ⊥

-- The function runs, and the end of the run is reported, with its gauge.
abbrev pub ReportsOf : {bytes name : List ℕ} (c : Chosen bytes name) (vs : Values) (room : Room) → RunOf c vs room →
    Bool → Result (List ℕ) Failure → Type 0
ReportsOf c vs room r gauge e = ReportsCode (c.code).types (c.function).results room.calls (frames_for c room)
    (if_asked gauge (gauge_by_states (all_seen r) c.held)) r.last r.end e

pub data RunsCode (bytes name input : List ℕ) (room : Room) (gauge : Bool) : Result (List ℕ) Failure → Type 0 where
  Misspelt : (c : Chosen bytes name) (at : ℕ) → IsPlace (SpellsFor c) input at →
      RunsCode bytes name input room gauge (Err (F.BadInput at))
  Small : (c : Chosen bytes name) (vs : Values) → SpellsFor c input vs → room.words < words_of c vs →
      RunsCode bytes name input room gauge (Err (F.TooSmall (words_of c vs) room.words))
  Ran : (c : Chosen bytes name) (vs : Values) (r : RunOf c vs room) (e : Result (List ℕ) Failure) →
      SpellsFor c input vs → words_of c vs ≤ room.words → ReportsOf c vs room r gauge e →
      RunsCode bytes name input room gauge e

-- ---- after which something is left

-- a run ends with this: a trap, or that calls or frames ran out
abbrev pub is_run_failure : Failure → Bool
is_run_failure (F.Trap kind line col) = true
is_run_failure (F.OutOfCalls given) = true
is_run_failure (F.OutOfFrames given) = true
is_run_failure failure = false

-- or with values
abbrev pub is_run_end : {T : Type 0} → Result T Failure → Bool
is_run_end (Ok text) = true
is_run_end (Err failure) = is_run_failure failure
