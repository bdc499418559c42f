-- Which code is a code of a source: `compile` stores such a one, `trace` runs one, and `exec`, `gen` and `trace` leave
-- one. It is known by what it says and by what its runs end in; which instructions do this is left open.
--
-- The source breaks no rule, and the code is sound. Its types are those of the source's program. It has a function for
-- each fip and fbip instance, in their order: of the instance's kind, with its parameters, credits and results, with as
-- many registers as it has, and with its name where it is a root. What a function holds of the stack at the most is
-- what `check` reports of the instance. It has no more instructions and label maps than the instance's places allow,
-- and no instruction lists more registers than its width allows. Some bytes, however many, are its file of the second
-- version. And the code means the program: a run of a function, from where arguments of its parameters' types are
-- loaded, ends as its instance means, whatever calls and frames are given: with the same values, in the same trap, or
-- out of calls or frames, and with the same calls left; and it takes as much of the stack as the evaluation does.
--
-- The six instructions of the reversal of a list are a code of its source; so are seven, with a Move before the Ret.
-- Six that give back the list as it was are none: they are sound, but the reversal of Cons(1, Cons(2, Nil)) isn't that
-- list.
use Rattle.std.specs.Prelude.{◌≡◌, ◌<◌, ◌≤◌, ℕ, List, [], map, length, Some, slice_get}
use Rattle.command_library.specs.fip_language.declared.limits.TheConstants.{MOST_FILE_BYTES}
use Rattle.command_library.specs.fip_language.Table.{HaveTypes}
use Rattle.command_library.specs.fip_language.Values.{Values}
use Rattle.command_library.specs.command_tasks.source_report.fip_trees.declared.groups.Member.{Member}
use Rattle.command_library.specs.command_tasks.source_report.fip_trees.Tree.{Instance, Program}
use Rattle.command_library.specs.command_tasks.source_report.tail_groups.Members.{AreMembers}
use Rattle.command_library.specs.command_tasks.source_report.instance_semantics.Meaning.{flat_meaning}
use Rattle.command_library.specs.command_tasks.source_report.cell_lower.Shape.{headers, plain_header}
use Rattle.command_library.specs.command_tasks.source_report.type_safety.Soundness.{parameter_types}
use Rattle.command_library.specs.command_tasks.source_report.lowering_relation.LoweredBodies.{function_of}
use Rattle.command_library.specs.command_tasks.source_report.lowering_simulation.CellEnds.{EndsAs}
use Rattle.command_library.specs.command_tasks.source_report.Report.{IsAccepted}
use Rattle.command_library.specs.command_tasks.code_file.CodeText.{CodeText}
use Rattle.command_library.specs.code_rules.cell_code.Plain.{PlainFunction, PlainCode, plain, function_at}
use Rattle.command_library.specs.command_tasks.code_file.declared.tags.Version.TheVariants.{Second}
use Rattle.command_library.specs.command_words.Words.{Room}
use Rattle.command_library.specs.machine_semantics.States.{State}
use Rattle.command_library.specs.machine_semantics.Steps.{Kinds}
use Rattle.command_library.specs.machine_semantics.Runs.{End, Ends, loaded, begun}
use Rattle.command_library.specs.machine_semantics.Gauges.{seen}
use Rattle.command_library.specs.code_rules.Breaks.{IsSound}
use Rattle.command_library.specs.separation.Codes.{AreKinds}
use Rattle.command_library.specs.run_loading.Loading.{first_store, first_words}
use Rattle.command_library.specs.command_source.Codes.{IsUnspelt}
use Rattle.command_library.specs.command_source.Entries.{Chosen, IsNamed}
use Rattle.command_library.specs.command_source.CodeShape.{AreWithin, AreNarrow, HaveStacks, HasFile}
use Rattle.command_library.specs.command_run.GaugeText.{highest_stack}
use Rattle.command_library.specs.command_tasks.run_loading.TraceText.{Trace}
use Rattle.command_trace.specs.RunTrace.{IsRunTrace}
use Rattle.command_answers.specs.Exec.{stack_of_peak}

-- ---- of a program

-- Function n, that of instance i, is loaded with these arguments and a cell for each credit of the header.
pub record IsLoaded (p : Program) (c : PlainCode) (i n : ℕ) (vs : Values) (frames : ℕ) (s : State) : Type 0 where
  pub instance : Instance
  pub there : slice_get p.instances i ≡ Some instance
  pub is : function_of p.instances i ≡ Some n
  pub typed : HaveTypes p.types (parameter_types instance) vs
  pub begins : loaded c n (first_store vs instance.credits) (first_words vs instance.credits) frames ≡ Some s

-- Each run ends as its instance means.
abbrev pub Means : Program → PlainCode → Type 0
Means p c = (before waits : Kinds) → AreKinds c before waits → (i n : ℕ) (vs : Values) (calls frames : ℕ) (s : State) →
    IsLoaded p c i n vs frames s → EndsAs c before n s calls (flat_meaning p i vs calls frames).answer

-- Each run that is given a call holds, over all its states, as much of the stack as its instance means, however it ends.
abbrev pub Peaks : Program → PlainCode → Type 0
Peaks p c = (before waits : Kinds) → AreKinds c before waits → (i n : ℕ) (vs : Values) (calls frames : ℕ) (s : State) →
    IsLoaded p c i n vs frames s → 0 < calls → (end : End) (last : State) (left steps : ℕ) →
    Ends before c s calls end last left steps →
    highest_stack (seen before c steps (begun s calls))
    ≡ stack_of_peak (flat_meaning p i vs calls frames).peak

-- a code of a program
pub record IsCodeOf (p : Program) (code : PlainCode) : Type 0 where
  pub types : code.types ≡ p.types
  pub members : List Member
  pub found : AreMembers p.instances members
  pub functions : map plain_header code.functions ≡ headers members p.instances
  pub within : AreWithin p code.functions
  pub narrow : AreNarrow p code.functions
  pub spelt : HasFile code
  pub sound : IsSound code
  pub stacks : HaveStacks p code
  pub means : Means p code
  pub peaks : Peaks p code

-- ---- of a source

-- a code of a source, which breaks no rule
pub record IsSourceCode (source : List ℕ) (code : PlainCode) : Type 0 where
  pub program : Program
  pub accepted : IsAccepted source program
  pub is : IsCodeOf program code

-- What is run by this name, and left: such a code in memory, and its function of this name, which isn't empty.
pub record IsSourceEntry (source name : List ℕ) (r : Chosen) : Type 0 where
  pub code : IsSourceCode source (plain r.checked.code)
  pub named : IsNamed name r.checked.code.functions.items r.entry

-- The file, which isn't too long, is that of such a code.
pub record IsSourceFile (source file : List ℕ) : Type 0 where
  pub code : PlainCode
  pub of' : IsSourceCode source code
  pub spelt : CodeText file Second code
  pub short : length file ≤ MOST_FILE_BYTES

-- Such a code has no file that isn't too long.
abbrev pub HasLongCode : List ℕ → Type 0
HasLongCode source = (code : PlainCode) × IsSourceCode source code × IsUnspelt code

-- The trace is that of the run of such a code, of its function of this name, on the input, from where its values are
-- loaded to where it gives words.
pub record IsSourceTrace (source name input : List ℕ) (room : Room) (t : Trace) : Type 0 where
  pub code : PlainCode
  pub of' : IsSourceCode source code
  pub number : ℕ
  pub function : PlainFunction
  pub there : function_at code number ≡ Some function
  pub named : function.name ≡ name
  pub some : name ≡ [] → ⊥
  pub traced : IsRunTrace code number input room t
