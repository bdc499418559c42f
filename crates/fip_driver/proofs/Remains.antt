-- What is left of a run: nothing where the command ended before it, and what a run left by the status that is answered.
-- Idea: a status of a run comes only of values, a trap, or that calls or frames ran out.
use Rattle.std.proofs.Common.{◌≡◌, ◌∙◌, ◌⊎◌, ℕ, Bool, true, false, List, inl, inr, refl, sym, ap, subst}
use Rattle.std.specs.Prelude.{Option, Some, None, Ok, Err, IfSome, IfErr, OnOk, OnErr, is_some}
use Rattle.fip_outside.specs.Files.{File, HoldsFile}
use Rattle.command_words.specs.Words.{Request, Room, Command, Exec, Run, Trace, Gen, IsCommand}
use Rattle.command_outcome.specs.Failures.{failure_status, failure_text}
use Rattle.command_outcome.specs.Stages.{IsOfSource}
use Rattle.command_outcome.specs.Texts.{no_memory_text}
use Rattle.command_outcome.specs.declared.failure.Failure.{Failure}
use Rattle.command_outcome.specs.declared.failure.Failure.TheVariants as F
use Rattle.command_outcome.specs.declared.failure.Object.TheVariants as O
use Rattle.command_answers.specs.command_library.command_source.Entries.{Chosen, IsFunctionOf}
use Rattle.command_answers.specs.command_library.command_source.ProgramCode.{IsEntryOf}
use Rattle.command_answers.specs.command_library.command_run.CodeRun.{is_run_end, is_run_failure}
use Rattle.command_answers.specs.command_library.command_run.Leaving.{IsLeftBy, LeavesOf}
use Rattle.command_answers.specs.command_library.GenAnswer.{build, gen_room, tree_source}
use Rattle.command_answers.specs.command_library.MadeTree.{gen_input}
use Rattle.command_answers.specs.command_library.command_run.declared.running.Left.{Left}
use Rattle.command_answers.specs.CodeOf.{IsSourceEntry}
use Rattle.command_answers.specs.Stored.{IsReported}
use Rattle.command_answers.proofs.SourceCode.{source_entry}
use Rattle.fip_driver.specs.Delivered.{Outcome, Seen, Reported, ReportedFailure, Delivered}
use Rattle.fip_driver.specs.Fetched.{FetchFails, StoreFails, ReadFails, IsEarlyFailure}
use Rattle.fip_driver.specs.Left.{LeftOn, LeftBy, LeavesCells, LeavesFor, is_run_status}
use Rattle.fip_driver.specs.Outcome.{Remains, Leaves}

-- ---- what is no end of a run

pub source_ran : (f : Failure) → IsOfSource f → is_run_failure f ≡ false
source_ran (F.Trap kind line col) h = absurd h
source_ran (F.OutOfCalls given) h = absurd h
source_ran (F.OutOfFrames given) h = absurd h
source_ran f h = refl

pub early_ran : (f : Failure) → IsEarlyFailure f → is_run_failure f ≡ false
early_ran (F.Trap kind line col) h = absurd h
early_ran (F.OutOfCalls given) h = absurd h
early_ran (F.OutOfFrames given) h = absurd h
early_ran f h = refl

pub fetch_ran : (files : Option (List File)) (name : List ℕ) (before now : ℕ) (f : Failure) → FetchFails files name before now f → is_run_failure f ≡ false
fetch_ran files name before now (F.Trap kind line col) h = absurd h
fetch_ran files name before now (F.OutOfCalls given) h = absurd h
fetch_ran files name before now (F.OutOfFrames given) h = absurd h
fetch_ran files name before now f h = refl

pub read_ran : (left left' : Option (List ℕ)) (before now : ℕ) (f : Failure) → ReadFails left left' before now f → is_run_failure f ≡ false
read_ran left left' before now (F.Trap kind line col) h = absurd h
read_ran left left' before now (F.OutOfCalls given) h = absurd h
read_ran left left' before now (F.OutOfFrames given) h = absurd h
read_ran left left' before now f h = refl

pub store_ran : (before now : ℕ) (f : Failure) → StoreFails before now f → is_run_failure f ≡ false
store_ran before now (F.Trap kind line col) h = absurd h
store_ran before now (F.OutOfCalls given) h = absurd h
store_ran before now (F.OutOfFrames given) h = absurd h
store_ran before now f h = refl

-- ---- on an input, on a file, and of a command

pub remains_on : (IsSuch : Chosen → Type 0) (reported : Option (List ℕ)) (room : Room) (r : Chosen) (input : List ℕ) (ended : Bool) (left : Option Left) → IsSuch r → IsReported reported input → is_some left ≡ ended → IfSome left (IsLeftBy r input room) → Remains (LeftOn IsSuch reported room) ended left
remains_on IsSuch reported room r input ended None such is e h = sym e
remains_on IsSuch reported room r input ended (Some l) such is e h = (sym e, (input, is, (r, such, h)))

-- what is left by a code that was made of a source is left by a code of the source
by_source : (source name : List ℕ) (reported : Option (List ℕ)) (room : Room) (l : Left) → LeftOn (IsEntryOf source name) reported room l → LeftOn (IsSourceEntry source name) reported room l
by_source source name reported room l (input, is, (r, such, by)) = (input, is, (r, source_entry source name r such, by))

pub leaves_exec : (r : Request) (files : Option (List File)) (reported : Option (List ℕ)) (source : List ℕ) (ended : Bool) (left : Option Left) → HoldsFile files r.file source → Remains (LeftOn (IsEntryOf source r.entry) reported r.room) ended left → Leaves (Exec r) files reported ended left
leaves_exec r files reported source ended None found h = λ cells. h
leaves_exec r files reported source ended (Some l) found h = (h.0, (source, found, by_source source r.entry reported r.room l h.1))

pub leaves_run : (r : Request) (files : Option (List File)) (reported : Option (List ℕ)) (code : List ℕ) (ended : Bool) (left : Option Left) → HoldsFile files r.file code → Remains (LeftOn (IsFunctionOf code r.entry) reported r.room) ended left → Leaves (Run r) files reported ended left
leaves_run r files reported code ended None found h = λ cells. h
leaves_run r files reported code ended (Some l) found h = (h.0, (code, found, h.1))

pub leaves_trace : (file entry out : List ℕ) (room : Room) (files : Option (List File)) (reported : Option (List ℕ)) (source : List ℕ) (ended : Bool) (left : Option Left) → HoldsFile files file source → Remains (LeftOn (IsEntryOf source entry) reported room) ended left → Leaves (Trace file entry out room) files reported ended left
leaves_trace file entry out room files reported source ended None found h = λ cells. h
leaves_trace file entry out room files reported source ended (Some l) found h = (h.0, (source, found, by_source source entry reported room l h.1))

pub leaves_gen : (seed count : ℕ) (files : Option (List File)) (reported : Option (List ℕ)) (ended : Bool) (left : Option Left) → is_some left ≡ ended → IfSome left (LeavesOf (IsEntryOf tree_source build) (gen_input seed count) gen_room) → Leaves (Gen seed count) files reported ended left
leaves_gen seed count files reported ended None e h = λ cells. sym e
leaves_gen seed count files reported ended (Some l) e (r, such, by) = (sym e, (r, source_entry tree_source build r such, by))

-- a trace that was made is stored, or nothing is left
pub leaves_stored : (file entry out : List ℕ) (room : Room) (files : Option (List File)) (reported : Option (List ℕ)) (source : List ℕ) (before now : ℕ) (o : Outcome) (ran left : Option Left) → HoldsFile files file source → Remains (LeftOn (IsEntryOf source entry) reported room) true ran → IfErr o (StoreFails before now) → OnOk o (left ≡ ran) → OnErr o (left ≡ None) → Leaves (Trace file entry out room) files reported (is_run_end o) left
leaves_stored file entry out room files reported source before now (Ok text) ran left found h fails same none = subst (λ l. Leaves (Trace file entry out room) files reported true l) (sym same) (leaves_trace file entry out room files reported source true ran found h)
leaves_stored file entry out room files reported source before now (Err f) ran left found h fails same none = subst (λ l. Leaves (Trace file entry out room) files reported (is_run_failure f) l) (sym none) (λ cells. store_ran before now f fails)

-- the words of a command
pub leaves_words : (words : List (List ℕ)) (c : Command) (files : Option (List File)) (reported : Option (List ℕ)) (ended : Bool) (left : Option Left) → IsCommand words c → ((d : Command) → IsCommand words d → c ≡ d) → Leaves c files reported ended left → LeavesFor words files reported ended left
leaves_words words c files reported ended None asked once h = λ d also cells. h (subst LeavesCells (sym (once d also)) cells)
leaves_words words c files reported ended (Some l) asked once h = (h.0, (c, asked, h.1))

-- ---- by the status

differ : (s n : ℕ) → s ≡ n → is_run_status n ≡ false → is_run_status s ≡ true → ⊥
differ s n e off on = let same : true ≡ false = sym on ∙ (ap is_run_status e ∙ off) in absurd cc

reported_status : (old new : Seen) (status : ℕ) (text : List ℕ) (s : ℕ) → Reported old new status text s → is_run_status status ≡ false → is_run_status s ≡ true → ⊥
reported_status old new status text s (inl h) off on = differ s status h.0 off on
reported_status old new status text s (inr h) off on = differ s 9 h.0 refl on

reported_other : (old new : Seen) (status : ℕ) (text : List ℕ) (s : ℕ) → Reported old new status text s ⊎ Reported old new 10 no_memory_text s → is_run_status status ≡ false → is_run_status s ≡ true → ⊥
reported_other old new status text s (inl h) off on = reported_status old new status text s h off on
reported_other old new status text s (inr h) off on = reported_status old new 10 no_memory_text s h refl on

failure_ran : (old new : Seen) (f : Failure) (s : ℕ) → ReportedFailure old new f s → is_run_status s ≡ true → is_run_failure f ≡ true
failure_ran old new (F.Trap kind line col) s h on = refl
failure_ran old new (F.OutOfCalls given) s h on = refl
failure_ran old new (F.OutOfFrames given) s h on = refl
failure_ran old new (F.Fault object) s h on = absurd (differ s 9 h.0 refl on)
failure_ran old new f s h on = absurd (reported_other old new (failure_status f) (failure_text f) s h refl on)

outcome_ran : (out out' err err' : Seen) (o : Outcome) (s : ℕ) → Delivered out out' err err' o s → is_run_status s ≡ true → is_run_end o ≡ true
outcome_ran out out' err err' (Ok text) s d on = refl
outcome_ran out out' err err' (Err f) s d on = failure_ran err err' f s d.1 on

handed : (words : List (List ℕ)) (files : Option (List File)) (reported : Option (List ℕ)) (ended : Bool) (s : ℕ) (ran : Option Left) → (is_run_status s ≡ true → ended ≡ true) → LeavesFor words files reported ended ran → is_run_status s ≡ true → LeavesFor words files reported (is_run_status s) ran
handed words files reported ended s None ends h on = λ c asked cells. (let same : true ≡ false = sym (ends on) ∙ h c asked cells in absurd cc)
handed words files reported ended s (Some l) ends h on = (on, h.1)

pub handed_out : (words : List (List ℕ)) (files : Option (List File)) (reported : Option (List ℕ)) (out out' err err' : Seen) (o : Outcome) (s : ℕ) (ran left : Option Left) → Delivered out out' err err' o s → LeavesFor words files reported (is_run_end o) ran → (is_run_status s ≡ true → left ≡ ran) → (is_run_status s ≡ false → left ≡ None) → LeavesFor words files reported (is_run_status s) left
handed_out words files reported out out' err err' o s ran left d h same none = by (is_run_status s) refl
  where
    by : (b : Bool) → is_run_status s ≡ b → LeavesFor words files reported (is_run_status s) left
    by true on = subst (λ l. LeavesFor words files reported (is_run_status s) l) (sym (same on)) (handed words files reported (is_run_end o) s ran (outcome_ran out out' err err' o s d) h on)
    by false off = subst (λ l. LeavesFor words files reported (is_run_status s) l) (sym (none off)) (λ c asked cells. off)
