-- What `exec` ends in on a source that has the entry with its code, once the input is read: what evaluation on trees
-- gives. No code is spoken of.
--
-- The input is the text of the entry's arguments, a line for each parameter; where it is none, it is bad at the least
-- offset with which none goes on. The store must have the words for the cells of the arguments and of the header's
-- credits; where it has fewer, both numbers are reported. Else the entry means something on these arguments, with the
-- calls that are given and the frames that a fip entry needs, or that are given: values, each printed in a line, and
-- after them the lines of the gauge where these are asked for; or a trap, or that calls or frames ran out.
--
-- With `rev` on Cons(1, Cons(2, Cons(3, Nil))) and Nil and the gauge, these are four lines: the reversed list, `cells
-- of 2: 3 to 3`, `stack: 0 frames, 9 words` and `bound: 0 frames, 9 words`. With 8 words the store is too small, since
-- 9 are needed; and with 3 calls it is out of calls.
use Rattle.std.specs.Prelude.{◌≡◌, ◌<◌, ◌≤◌, ℕ, Bool, List, ◌++◌, Option, Result, Ok, Err}
use Rattle.command_library.specs.fip_language.Meaning.{Answer, Gives, Trap, Out, Deep, Stuck, Peak, meaning}
use Rattle.command_library.specs.fip_language.Meaning as M
use Rattle.command_library.specs.fip_language.Prefix.{IsPlace}
use Rattle.command_library.specs.fip_language.PrintedText.{printed_lines}
use Rattle.command_library.specs.fip_language.Statics.{NoClosed}
use Rattle.command_library.specs.fip_language.Table.{Table}
use Rattle.command_library.specs.fip_language.Values.{Values}
use Rattle.command_library.specs.fip_base.declared.plain.Stack.{Stack}
use Rattle.command_library.specs.command_run.fip_trees.declared.groups.Member.{Member}
use Rattle.command_library.specs.command_run.fip_trees.Tree.{Instance}
use Rattle.command_library.specs.command_run.tail_groups.Members.{AreMembers}
use Rattle.command_library.specs.command_words.Words.{Room}
use Rattle.command_library.specs.command_outcome.declared.failure.Failure.{Failure}
use Rattle.command_library.specs.command_outcome.declared.failure.Failure.TheVariants as F
use Rattle.command_library.specs.command_eval.EvalAnswer.{Entry, Spells}
use Rattle.command_library.specs.session_semantics.Talk.{frames_of}
use Rattle.command_library.specs.command_run.CodeRun.{words_for}
use Rattle.command_library.specs.command_run.ExecAnswer.{IsBoundOf}
use Rattle.command_answers.specs.GaugeText.{gauge_text, if_asked, highest_of, lowest_of}

-- a text for out, or what keeps a command from one
abbrev pub End : Type 0
End = Result (List ℕ) Failure

-- An entry, and what a run of it holds of the stack at the most, as the groups of its program report: none where it
-- isn't fip.
pub record Start (source name : List ℕ) : Type 0 where
  pub entry : Entry source name
  pub members : List Member
  pub found : AreMembers entry.program.instances members
  pub bound : Option Stack
  pub reported : IsBoundOf entry bound

-- the words that the store must have
abbrev pub words_of : {source name : List ℕ} → Entry source name → Values → ℕ
words_of entry vs = words_for vs (entry.root).credits

-- the frames of its run: those that it needs, or those that are given
abbrev pub frames_for : {source name : List ℕ} → Start source name → Room → ℕ
frames_for s room = frames_of room.frames s.bound

-- what the source means by the entry
abbrev pub run_of : {source name : List ℕ} → Start source name → Values → Room → M.Run
run_of {name = name} s vs room = meaning (s.entry).core name NoClosed vs room.calls (frames_for s room)

-- ---- what is reported

-- what runs: an instance of a program with these types, and what its runs hold of the stack at the most
pub record Running : Type 0 where
  pub types : Table
  pub instance : Instance
  pub bound : Option Stack

abbrev pub stack_of_peak : Peak → Stack
stack_of_peak peak = record { frames = peak.frames; words = peak.words }

-- the lines of the gauge, by trees
abbrev pub gauge_by_trees : Running → Values → Values → Peak → List ℕ
gauge_by_trees r vs results peak =
    gauge_text (lowest_of (r.instance).params vs results) (highest_of (r.instance).credits vs)
    (stack_of_peak peak) r.bound

-- how an answer is reported, where so many calls and frames were given; no answer of an accepted source is stuck
abbrev pub ReportsRun : Running → Values → ℕ → ℕ → Bool → Peak → Answer → End → Type 0
ReportsRun r vs calls frames gauge peak (Gives results left) e =
    e ≡ Ok (printed_lines r.types (r.instance).results results ++ if_asked gauge (gauge_by_trees r vs results peak))
ReportsRun r vs calls frames gauge peak (Trap kind line col) e = e ≡ Err (F.Trap kind line col)
ReportsRun r vs calls frames gauge peak Out e = e ≡ Err (F.OutOfCalls calls)
ReportsRun r vs calls frames gauge peak Deep e = e ≡ Err (F.OutOfFrames frames)
ReportsRun r vs calls frames gauge peak Stuck e = ⊥

abbrev pub ReportsAll : Running → Values → ℕ → ℕ → Bool → M.Run → End → Type 0
ReportsAll r vs calls frames gauge run e = ReportsRun r vs calls frames gauge run.peak run.answer e

abbrev pub running : {source name : List ℕ} → Start source name → Running
running s = record { types = (s.entry).program.types; instance = (s.entry).root; bound = s.bound }

-- ---- exec

pub data Execs (source name input : List ℕ) (room : Room) (gauge : Bool) : End → Type 0 where
  Misspelt : (entry : Entry source name) (at : ℕ) → IsPlace (Spells entry) input at →
      Execs source name input room gauge (Err (F.BadInput at))
  Small : (entry : Entry source name) (vs : Values) → Spells entry input vs → room.words < words_of entry vs →
      Execs source name input room gauge (Err (F.TooSmall (words_of entry vs) room.words))
  Ran : (s : Start source name) (vs : Values) (e : End) → Spells s.entry input vs → words_of s.entry vs ≤ room.words →
      ReportsAll (running s) vs room.calls (frames_for s room) gauge (run_of s vs room) e →
      Execs source name input room gauge e
