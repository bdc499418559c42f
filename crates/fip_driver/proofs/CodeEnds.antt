-- From what a part answered to what a command on a code file ends with.
use Rattle.std.proofs.Common.{◌≡◌, ◌<◌, ◌≤◌, ℕ, List, [], length, sym, ap, subst, refl, inl, inr}
use Rattle.std.specs.Prelude.{◌⊎◌, Option, Some, Result, Ok, Err, IfOk, IfErr}
use Rattle.std.specs.declared.vec.Vec.{Vec}
use Rattle.std.specs.declared.alloc.Global.{Global}
use Rattle.fip_language.specs.declared.rule.Rule.TheVariants.{E61, E70}
use Rattle.fip_outside.specs.Faults.{Rose}
use Rattle.fip_outside.specs.Files.{File, file_of, HoldsFile}
use Rattle.command_words.specs.Words.{Request, Command, Verify, Upgrade, Run}
use Rattle.command_outcome.specs.declared.failure.Failure.{Failure}
use Rattle.command_outcome.specs.declared.failure.Failure.TheVariants as F
use Rattle.command_outcome.specs.declared.failure.Object.TheVariants as O
use Rattle.command_answers.specs.command_tasks.source_report.Report.{bare}
use Rattle.command_answers.specs.command_library.command_run.CodeRun.{RunsCode}
use Rattle.command_answers.specs.command_library.command_source.Codes.{LongFile, KeepsFromCode, KeepsFromUpgrade, KeepsFromRun, IsCodeListing, IsUpgraded, HasFunction}
use Rattle.command_answers.specs.command_library.command_source.Wanted.{IsRefusedBy, of_entry}
use Rattle.command_answers.specs.Answer.{OnFile, ComesTo}
use Rattle.command_answers.specs.Asks.{fetched_name, HasWanted, HoldsWanted, ComesToInput}
use Rattle.command_answers.specs.Ends.{OnCode, CodeRefused, CodeSound, NoFunction, LongRun, Runs}
use Rattle.command_answers.specs.Exec.{End}
use Rattle.fip_driver.specs.Fetched.{StoreFails}
use Rattle.fip_driver.specs.Turns.{end_of, IsFault, Closes}
use Rattle.fip_driver.specs.Outcome.{IsInputFault, ReadOutcome, CodeOutcome, FileOutcome}
use Rattle.fip_driver.proofs.SourceEnds.{comes_found, fault_up, input_fault_up, rose_later}
use Rattle.fip_driver.proofs.Telling.{any_reported, held}

-- ---- the code

pub code_kept : (c : Command) (bytes : List ℕ) (left : Option (List ℕ)) (fr ir : Type 0) (f : Failure) → KeepsFromCode bytes f → CodeOutcome c bytes left fr ir (Err f)
code_kept c bytes left fr ir f h = let i = any_reported left [] in (i.0, i.1, by f i.0 h)
  where
    by : (f : Failure) (input : List ℕ) → KeepsFromCode bytes f → IsFault c (HasWanted c bytes) fr ir (Err f) ⊎ OnCode bytes input c (Err f)
    by (F.BadCode at) input h = inr (CodeRefused (F.BadCode at) h)
    by (F.Unsound function at rule) input h = inr (CodeRefused (F.Unsound function at rule) h)
    by F.NoMemory input h = inl tt
    by failure input h = absurd h

-- `verify`
pub verify_ends : (file bytes : List ℕ) (left : Option (List ℕ)) (fr ir : Type 0) (o : Result (Vec ℕ Global) Failure) → IfOk o (λ v. IsCodeListing bytes v.items) → IfErr o (KeepsFromCode bytes) → CodeOutcome (Verify file) bytes left fr ir (end_of o)
verify_ends file bytes left fr ir (Ok v) h k = let i = any_reported left [] in (i.0, i.1, inr (CodeSound (Ok v.items) h))
verify_ends file bytes left fr ir (Err f) h k = code_kept (Verify file) bytes left fr ir f k

-- `upgrade`
pub upgrade_refused : (file out bytes : List ℕ) (left : Option (List ℕ)) (fr ir : Type 0) (f : Failure) → KeepsFromUpgrade bytes f → CodeOutcome (Upgrade file out) bytes left fr ir (Err f)
upgrade_refused file out bytes left fr ir f (inl h) = code_kept (Upgrade file out) bytes left fr ir f h
upgrade_refused file out bytes left fr ir f (inr (code, sound, unspelt, h)) = let i = any_reported left [] in (i.0, i.1, by f i.0 h)
  where
    by : (f : Failure) (input : List ℕ) → IsRefusedBy (λ r. r ≡ bare E61) f → IsFault (Upgrade file out) (HasWanted (Upgrade file out) bytes) fr ir (Err f) ⊎ OnCode bytes input (Upgrade file out) (Err f)
    by (F.Refused r) input e = inr (CodeSound (Err (F.Refused r)) ((code, sound, unspelt), ap F.Refused e))
    by F.NoMemory input e = inl tt
    by failure input e = absurd e

pub upgrade_ends : (file out bytes text again : List ℕ) (left : Option (List ℕ)) (ir : Type 0) (before mid now : ℕ) (o : Result (Vec ℕ Global) Failure) → before ≤ mid → IsCodeListing bytes text → IsUpgraded bytes again → IfOk o (λ v. v.items ≡ text) → IfErr o (StoreFails mid now) → CodeOutcome (Upgrade file out) bytes left (Rose before now) ir (end_of o)
upgrade_ends file out bytes text again left ir before mid now o le listing spelt ok err = let i = any_reported left [] in (i.0, i.1, by o i.0 ok err)
  where
    by : (o : Result (Vec ℕ Global) Failure) (input : List ℕ) → IfOk o (λ v. v.items ≡ text) → IfErr o (StoreFails mid now) → IsFault (Upgrade file out) (HasWanted (Upgrade file out) bytes) (Rose before now) ir (end_of o) ⊎ OnCode bytes input (Upgrade file out) (end_of o)
    by (Ok v) input e err = inr (CodeSound (Ok v.items) (subst (IsCodeListing bytes) (sym e) listing, (again, spelt)))
    by (Err (F.Fault O.Folder)) input ok err = inl (rose_later before mid now le err.1, λ r. r)
    by (Err (F.Fault O.Input)) input ok err = absurd (let same = err.0 in cc)
    by (Err (F.Fault O.Out)) input ok err = absurd (let same = err.0 in cc)
    by (Err (F.Fault O.Err)) input ok err = absurd (let same = err.0 in cc)
    by (Err F.NoMemory) input ok err = inl tt
    by (Err failure) input ok err = absurd err

-- `run`
pub run_refused : (r : Request) (bytes : List ℕ) (left : Option (List ℕ)) (fr ir : Type 0) (f : Failure) → KeepsFromRun bytes r.entry f → CodeOutcome (Run r) bytes left fr ir (Err f)
run_refused r bytes left fr ir f (inl h) = code_kept (Run r) bytes left fr ir f h
run_refused r bytes left fr ir f (inr (code, sound, none, h)) = let i = any_reported left [] in (i.0, i.1, by f i.0 h)
  where
    by : (f : Failure) (input : List ℕ) → IsRefusedBy (λ q. q ≡ of_entry E70 r.entry) f → IsFault (Run r) (HasFunction bytes r.entry) fr ir (Err f) ⊎ OnCode bytes input (Run r) (Err f)
    by (F.Refused q) input e = inr (subst (λ q. OnCode bytes input (Run r) (Err (F.Refused q))) (sym e) (CodeSound (Err (F.Refused (of_entry E70 r.entry))) (NoFunction code sound none)))
    by F.NoMemory input e = inl tt
    by failure input e = absurd e

pub run_ends : (r : Request) (bytes : List ℕ) (left : Option (List ℕ)) (fr rose : Type 0) (e : End) → HasFunction bytes r.entry → ReadOutcome (λ input. RunsCode bytes r.entry input r.room r.gauge) left rose e → CodeOutcome (Run r) bytes left fr rose e
run_ends r bytes left fr rose e has (input, reported, h) = (input, reported, by h)
  where
    by : IsInputFault rose e ⊎ (((16777216 < length input) × (e ≡ Err (F.BadInput 16777216))) ⊎ ((length input ≤ 16777216) × RunsCode bytes r.entry input r.room r.gauge e)) → IsFault (Run r) (HasFunction bytes r.entry) fr rose e ⊎ OnCode bytes input (Run r) e
    by (inl f) = inl (input_fault_up (Run r) (HasFunction bytes r.entry) fr rose e tt has f)
    by (inr (inl (more, same))) = inr (subst (OnCode bytes input (Run r)) (sym same) (CodeSound (Err (F.BadInput 16777216)) (LongRun has more)))
    by (inr (inr (le, m))) = inr (CodeSound e (Runs e le m))

-- ---- the file

pub code_ends : (c : Command) (name : List ℕ) (files : Option (List File)) (left : Option (List ℕ)) (fr ir more_fr more_ir : Type 0) (bytes text : List ℕ) (e : End) → (fr → more_fr) → (ir → more_ir) → HoldsFile files name bytes → fetched_name c ≡ Some name → ((all : List File) (input : List ℕ) → OnCode bytes input c e → OnFile all bytes input c e) → text ≡ bytes → CodeOutcome c text left fr ir e → FileOutcome c files left more_fr more_ir e
code_ends c name files left fr ir mf mi bytes text e f i holds names on same k =
    let h = subst (λ s. CodeOutcome c s left fr ir e) same k in
    let t = held files name bytes holds in
    (t.0, h.0, t.1, h.1, by h.0 t.0 t.2 h.2)
  where
    by : (input : List ℕ) (all : List File) → file_of name all ≡ Some bytes → IsFault c (HasWanted c bytes) fr ir e ⊎ OnCode bytes input c e → Closes all input c mf mi e
    by input all there (inl g) = inl (fault_up c (HasWanted c bytes) (ComesToInput c (Some all)) fr ir mf mi e (λ k. subst (HoldsWanted c (Some all)) (sym names) (bytes, there, k)) f i g)
    by input all there (inr s) = inr (comes_found all input c name (Some bytes) e names there (on all input s))

-- a code file that is too long
pub long_code : (c : Command) → ((all : List File) (bytes input : List ℕ) (e : End) → OnCode bytes input c e → OnFile all bytes input c e) → (all : List File) (input bytes : List ℕ) (e : Failure) → e ≡ F.BadCode 16777216 → 16777216 < length bytes → OnFile all bytes input c (Err e)
long_code c on all input bytes e same more =
    on all bytes input (Err e) (subst (λ f. OnCode bytes input c (Err f)) (sym same) (CodeRefused (F.BadCode 16777216) (LongFile more)))
