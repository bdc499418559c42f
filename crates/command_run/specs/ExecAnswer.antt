-- What `exec` ends in on a source that has the entry with its code, once the input is read: what the source means.
--
-- The input is the text of the entry's arguments, a line for each parameter; where it is none, it is reported as bad,
-- at the least offset with which none goes on. The store must have the words for the cells of the arguments and of the
-- header's credits: k + 1 for each cell of size k; where it has fewer, both numbers are reported. Else the evaluation
-- of the entry on these arguments is reported, with the calls that are given and the frames that its code needs, where
-- it is fip, or that are given: its values, each in a line of its own; or the trap and its place, or that calls or
-- frames ran out, where frames never run out of a fip entry.
--
-- Where the gauge is asked for, its lines are after the values. They report a run of a code that is lowered from the
-- source, and of each such run the same: as the lowest number of cells of each size how many of them the results and
-- the borrowed arguments have, as the highest how many the arguments and the header's credits have, as the stack the
-- peak of the evaluation; and for a fip entry as its bound the stack number that `check` reports of it, while an fbip
-- entry has no such line. For a fip entry both numbers of cells are those of the arguments and credits, in all states
-- of the run, and the stack is within its bound.
--
-- With `rev` on Cons(1, Cons(2, Cons(3, Nil))) and Nil and the gauge, these are four lines: the reversed list, `cells
-- of 2: 3 to 3`, `stack: 0 frames, 9 words` and `bound: 0 frames, 9 words`. With 8 words the store is too small, since
-- 9 are needed; and with 3 calls it is out of calls.
use Rattle.std.specs.Prelude.{◌≡◌, ◌≢◌, ◌<◌, ◌≤◌, ℕ, Bool, List, [], ◌++◌, Option, Some, None}
use Rattle.std.specs.Prelude.{Result, Ok, Err}
use Rattle.fip_language.specs.declared.FunKind.TheVariants.{Fip}
use Rattle.fip_language.specs.declared.limits.TheConstants.{MOST_FIELDS}
use Rattle.fip_language.specs.Gauge.{Seen, lowest, highest}
use Rattle.fip_language.specs.Meaning.{Answer, Gives, Trap, Out, Deep, Stuck, Peak, meaning}
use Rattle.fip_language.specs.Prefix.{IsPlace}
use Rattle.fip_language.specs.PrintedText.{printed_lines}
use Rattle.fip_language.specs.Statics.{NoClosed}
use Rattle.fip_language.specs.Table.{Table}
use Rattle.fip_language.specs.Values.{Values}
use Rattle.fip_base.specs.declared.plain.Stack.{Stack}
use Rattle.command_words.specs.Words.{Room}
use Rattle.command_outcome.specs.declared.failure.Failure.{Failure}
use Rattle.command_outcome.specs.declared.failure.Failure.TheVariants as F
use Rattle.code_verify.specs.cell_code.Plain.{PlainFunction, PlainCode, function_at}
use Rattle.command_eval.specs.machine_correctness.code_rules.StackNumbers.{HasStack}
use Rattle.session_semantics.specs.Talk.{frames_of}
use Rattle.command_eval.specs.command_source.ProgramCode.{IsCodeOfSource}
use Rattle.command_eval.specs.EvalAnswer.{Entry, Spells}
use Rattle.command_eval.specs.machine_correctness.Gauges.{cells_given, IsMeasured}
use Rattle.command_run.specs.CodeRun.{Run, all_seen, words_for}
use Rattle.command_run.specs.GaugeText.{gauge_by_states, highest_stack, if_asked}
pub use Rattle.command_run.specs.StackBound.{IsBoundOf}

-- how an answer is reported, where values of these types are expected, so many calls and frames were given, and these
-- lines are after values; no answer of an accepted source is stuck
abbrev pub ReportsRun : Table → List ℕ → ℕ → ℕ → (Values → List ℕ) → Answer → Result (List ℕ) Failure → Type 0
ReportsRun types results calls frames following (Gives vs left) e = e ≡ Ok (printed_lines types results vs ++ following vs)
ReportsRun types results calls frames following (Trap kind line col) e = e ≡ Err (F.Trap kind line col)
ReportsRun types results calls frames following Out e = e ≡ Err (F.OutOfCalls calls)
ReportsRun types results calls frames following Deep e = e ≡ Err (F.OutOfFrames frames)
ReportsRun types results calls frames following Stuck e = ⊥

-- a code of a source, its function of the entry's name, which isn't empty, and what runs of this hold of the stack at
-- the most
pub record Coded (source name : List ℕ) : Type 0 where
  pub code : PlainCode
  pub of' : IsCodeOfSource source code
  pub number : ℕ
  pub function : PlainFunction
  pub there : function_at code number ≡ Some function
  pub named : function.name ≡ name
  pub some : name ≡ [] → ⊥
  pub held : Option Stack
  pub stack : HasStack code number held

-- the frames of its run
abbrev pub frames_for : {source name : List ℕ} → Coded source name → Room → ℕ
frames_for c room = frames_of room.frames c.held

-- the words that the store must have
abbrev pub words_of : {source name : List ℕ} → Entry source name → Values → ℕ
words_of entry vs = words_for vs (entry.root).credits

abbrev pub answer_of : {source name : List ℕ} → Entry source name → Values → ℕ → ℕ → Answer
answer_of {name = name} entry vs calls frames = (meaning entry.core name NoClosed vs calls frames).answer

abbrev pub peak_of : {source name : List ℕ} → Entry source name → Values → ℕ → ℕ → Peak
peak_of {name = name} entry vs calls frames = (meaning entry.core name NoClosed vs calls frames).peak

abbrev pub IsWithin : Stack → Option Stack → Type 0
IsWithin stack None = ⊥
IsWithin stack (Some bound) = (stack.frames ≤ bound.frames) × (stack.words ≤ bound.words)

-- In each of these states as many cells of each size were held as the arguments and the header's credits have, and the
-- stack was within its bound.
pub record RunsInPlace (vs : Values) (credits : List ℕ) (ss : List Seen) (bound : Option Stack) : Type 0 where
  pub lowest : (size : ℕ) → 1 ≤ size → size ≤ MOST_FIELDS → lowest size ss ≡ cells_given size vs credits
  pub highest : (size : ℕ) → 1 ≤ size → size ≤ MOST_FIELDS → highest size ss ≡ cells_given size vs credits
  pub within : IsWithin (highest_stack ss) bound

-- The code runs on these arguments, and the evaluation of the entry on them is reported, with the gauge of the run.
-- Where values are given, the states of the run are measured by the evaluation. Its bound is what the program's groups
-- report of the entry. A fip entry runs in place, and never lacks frames.
pub record RunsOn {source name : List ℕ} (entry : Entry source name) (vs : Values) (room : Room) (gauge : Bool)
    (e : Result (List ℕ) Failure) : Type 0 where
  pub code : Coded source name
  pub run : Run code.code code.number vs room.calls (frames_for code room)
  pub reported : ReportsRun entry.program.types (entry.root).results room.calls (frames_for code room)
      (λ results. if_asked gauge (gauge_by_states (all_seen run) code.held))
      (answer_of entry vs room.calls (frames_for code room)) e
  pub measured : (results : Values) (left : ℕ) →
      answer_of entry vs room.calls (frames_for code room) ≡ Gives results left →
      IsMeasured vs results (entry.root).params (entry.root).credits
      (peak_of entry vs room.calls (frames_for code room)) (all_seen run)
  pub bound : IsBoundOf entry code.held
  pub in_place : (entry.root).kind ≡ Fip → RunsInPlace vs (entry.root).credits (all_seen run) code.held
  pub never_deep : (entry.root).kind ≡ Fip → answer_of entry vs room.calls (frames_for code room) ≢ Deep

pub data Execs (source name input : List ℕ) (room : Room) (gauge : Bool) : Result (List ℕ) Failure → Type 0 where
  Misspelt : (entry : Entry source name) (at : ℕ) → IsPlace (Spells entry) input at →
      Execs source name input room gauge (Err (F.BadInput at))
  Small : (entry : Entry source name) (vs : Values) → Spells entry input vs → room.words < words_of entry vs →
      Execs source name input room gauge (Err (F.TooSmall (words_of entry vs) room.words))
  Ran : (entry : Entry source name) (vs : Values) (e : Result (List ℕ) Failure) → Spells entry input vs →
      words_of entry vs ≤ room.words → RunsOn entry vs room gauge e → Execs source name input room gauge e
