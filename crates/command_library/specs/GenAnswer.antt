-- It serves the proofs on `gen`: what it ends in, as the run of a code of the library's text rbtree, entry build, on
-- the keys of a seed.
--
-- That text breaks no rule. Its input is three lines: the list of the keys, a list of as many pads Pad4(0, 0, 0, 0),
-- and Leaf. The keys are the numbers of the seed, as for the turns of tasks. The run has the calls and frames that
-- `exec` is given where nothing is said, and the greatest store; and what keeps `exec` from its values is reported. In
-- place of the values four lines are printed, of the tree that the evaluation of the entry gives on these arguments:
-- how many keys and how many nodes, and the least and the greatest key of a node, `none` where there is no node.
--
-- `gen 1 3` makes a tree of 1103527590, 377401575 and 662824084, and prints `keys 3`, `nodes 3`, `least 377401575` and
-- `greatest 1103527590`.
use Rattle.std.specs.Prelude.{◌≡◌, ◌<◌, ◌≤◌, ℕ, false, List, length, Result, Ok, Err}
use Rattle.fip_language.specs.Meaning.{Gives}
use Rattle.fip_language.specs.Values.{Values}
use Rattle.fip_language.specs.declared.limits.TheConstants.{MOST_FILE_BYTES}
use Rattle.command_outcome.specs.declared.failure.Failure.{Failure}
use Rattle.command_outcome.specs.declared.failure.Failure.TheVariants as F
use Rattle.command_tasks.specs.command_run.command_eval.EvalAnswer.{Entry, Spells}
use Rattle.command_tasks.specs.command_run.ExecAnswer.{Execs, RunsOn, answer_of, frames_for, words_of}
use Rattle.command_library.specs.MadeTree.{gen_input, lines_of_results}
pub use Rattle.command_library.specs.GenRoom.{tree_source, build, gen_room}

-- ---- gen

-- What the run of a source's entry ends in, where the source has it. An input that has too many bytes isn't run on.
-- Where `exec` prints values, the lines report those that the entry means with as many frames.
pub data Makes (source : List ℕ) (seed count : ℕ) : Result (List ℕ) Failure → Type 0 where
  LongInput : MOST_FILE_BYTES < length (gen_input seed count) →
      Makes source seed count (Err (F.BadInput MOST_FILE_BYTES))
  NoTree : (failure : Failure) → length (gen_input seed count) ≤ MOST_FILE_BYTES →
      Execs source build (gen_input seed count) gen_room false (Err failure) → Makes source seed count (Err failure)
  Made : (entry : Entry source build) (vs results : Values) (left : ℕ) (text : List ℕ) →
      length (gen_input seed count) ≤ MOST_FILE_BYTES → Spells entry (gen_input seed count) vs →
      words_of entry vs ≤ gen_room.words → (runs : RunsOn entry vs gen_room false (Ok text)) →
      answer_of entry vs gen_room.calls (frames_for runs.code gen_room) ≡ Gives results left →
      Makes source seed count (Ok (lines_of_results count results))

abbrev pub Generates : ℕ → ℕ → Result (List ℕ) Failure → Type 0
Generates seed count e = Makes tree_source seed count e
