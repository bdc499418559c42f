-- What a step reports a store to do: just what the definition says that it does to the cells. Where the definition says
-- nothing comes, nothing is said.
use Rattle.std.specs.Prelude.{Bool, true, false, List, map}
use Rattle.cell_code.specs.declared.code.Instr.{Instr}
use Rattle.cell_code.specs.declared.code.Instr.TheVariants as I
use Rattle.cell_code.specs.declared.kind.Kind.{Kind}
use Rattle.cell_store.specs.Reported.{Reported}
use Rattle.cell_code.specs.Plain.{PlainCode}
use Rattle.machine_frames.specs.machine_semantics.States.{State, Next, Went, Entered, Gave, Trapped, TooDeep, Stuck}
use Rattle.machine_frames.specs.machine_semantics.Rows.{done}
use Rattle.machine_frames.specs.machine_semantics.Steps.{Kinds, act, next, changes_in, changes_of}
use Rattle.machine_frames.specs.machine_semantics.Traces.{done_changes}
use Rattle.machine_cells.specs.Telling.{as_reported}

-- Something comes.
abbrev pub IsKnown : Next → Type 0
IsKnown (Went s) = Unit {0}
IsKnown (Entered s) = Unit {0}
IsKnown (Gave words) = Unit {0}
IsKnown (Trapped kind line col) = Unit {0}
IsKnown TooDeep = Unit {0}
IsKnown Stuck = ⊥

-- what an instruction reports where registers have these kinds
abbrev pub act_reports : PlainCode → List Kind → State → Instr → List Reported
act_reports code ks s x = map as_reported (done_changes (changes_in (done code.types ks s x)) (act code ks s x))

-- what the next one reports
abbrev pub next_reports : Kinds → PlainCode → State → List Reported
next_reports kinds code s = map as_reported (done_changes (changes_of kinds code s) (next kinds code s))

-- only these instructions do something to cells
abbrev pub changes_cells : Instr → Bool
changes_cells (I.Const d v) = false
changes_cells (I.Atom d t c) = false
changes_cells (I.Move d r) = false
changes_cells (I.Arith d o x y line col) = false
changes_cells (I.Test r c target) = false
changes_cells (I.TestInt r v target) = false
changes_cells (I.Peek d r i) = false
changes_cells (I.Take r ds) = false
changes_cells (I.Put r t c ss) = true
changes_cells (I.Drop r) = true
changes_cells (I.Free r) = true
changes_cells (I.Call f ss ds) = false
changes_cells (I.Tail f ss) = false
changes_cells (I.Ret ss) = false
changes_cells (I.Jump target) = false
