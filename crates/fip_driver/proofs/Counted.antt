-- A fault of a folder that reports nothing is named only where its count rose.
use Rattle.std.proofs.Common.{◌≡◌, ◌≤◌, ℕ, List, subst, inl, inr}
use Rattle.std.specs.Prelude.{◌⊎◌, Option, Some, None, Ok, Err, IfErr}
use Rattle.fip_base.specs.declared.refusal.Refusal.{Refusal}
use Rattle.fip_outside.specs.Faults.{Rose}
use Rattle.fip_outside.specs.Files.{File, IsMissing}
use Rattle.command_outcome.specs.Stages.{IsOfSource, IsOfReplay}
use Rattle.command_outcome.specs.declared.failure.Failure.{Failure}
use Rattle.command_outcome.specs.declared.failure.Failure.TheVariants as F
use Rattle.command_outcome.specs.declared.failure.Object.TheVariants as O
use Rattle.fip_driver.specs.Fetched.{FetchFails, FileFails, StoreFails, JudgeFails, IsLateFailure}
use Rattle.fip_driver.specs.Delivered.{Outcome}
use Rattle.fip_driver.specs.Turns.{RoseUntold, IsCounted, IsBeforeInput}
use Rattle.fip_driver.specs.Outcome.{IsFolderFault}
use Rattle.fip_driver.proofs.SourceEnds.{rose_later}

-- no fault of the folder
pub unfaulted_counted : (files : Option (List File)) (rose : Type 0) (o : Outcome) → (IsFolderFault o → ⊥) → IsCounted files rose o
unfaulted_counted files rose (Ok text) h = tt
unfaulted_counted files rose (Err (F.Fault O.Folder)) h = absurd (h tt)
unfaulted_counted files rose (Err (F.Fault O.Input)) h = tt
unfaulted_counted files rose (Err (F.Fault O.Out)) h = tt
unfaulted_counted files rose (Err (F.Fault O.Err)) h = tt
unfaulted_counted files rose (Err f) h = tt

-- what comes after the input isn't one
pub late_unfaulted : (o : Outcome) → (IsBeforeInput o → ⊥) → IsFolderFault o → ⊥
late_unfaulted (Ok text) h b = b
late_unfaulted (Err (F.Fault O.Folder)) h b = h tt
late_unfaulted (Err (F.Fault O.Input)) h b = b
late_unfaulted (Err (F.Fault O.Out)) h b = b
late_unfaulted (Err (F.Fault O.Err)) h b = b
late_unfaulted (Err f) h b = b

pub late_counted : (files : Option (List File)) (rose : Type 0) (o : Outcome) → (IsBeforeInput o → ⊥) → IsCounted files rose o
late_counted files rose o h = unfaulted_counted files rose o (late_unfaulted o h)

-- nor is what is said of a source, of a code or of a trace
pub source_unfaulted : (f : Failure) → IsOfSource f → IsFolderFault (Err f) → ⊥
source_unfaulted (F.Fault object) h b = h
source_unfaulted f h b = b

pub source_counted : (files : Option (List File)) (rose : Type 0) (f : Failure) → IsOfSource f → IsCounted files rose (Err f)
source_counted files rose f h = unfaulted_counted files rose (Err f) (source_unfaulted f h)

pub sources_counted : (files : Option (List File)) (rose : Type 0) (o : Outcome) → IfErr o IsOfSource → IsCounted files rose o
sources_counted files rose (Ok text) h = tt
sources_counted files rose (Err f) h = source_counted files rose f h

replay_unfaulted : (f : Failure) → IsOfReplay f → IsFolderFault (Err f) → ⊥
replay_unfaulted (F.Fault object) h b = h
replay_unfaulted f h b = b

pub replay_counted : (files : Option (List File)) (rose : Type 0) (o : Outcome) → IfErr o IsOfReplay → IsCounted files rose o
replay_counted files rose (Ok text) h = tt
replay_counted files rose (Err f) h = unfaulted_counted files rose (Err f) (replay_unfaulted f h)

late_failure_unfaulted : (f : Failure) → IsLateFailure f → IsFolderFault (Err f) → ⊥
late_failure_unfaulted (F.Fault O.Folder) h b = h
late_failure_unfaulted (F.Fault O.Input) h b = b
late_failure_unfaulted (F.Fault O.Out) h b = b
late_failure_unfaulted (F.Fault O.Err) h b = b
late_failure_unfaulted f h b = b

pub late_failure_counted : (files : Option (List File)) (rose : Type 0) (f : Failure) → IsLateFailure f → IsCounted files rose (Err f)
late_failure_counted files rose f h = unfaulted_counted files rose (Err f) (late_failure_unfaulted f h)

-- ---- what is one

risen : (files : Option (List File)) (name : List ℕ) (rose : Type 0) → rose ⊎ IsMissing files name → RoseUntold files rose
risen None name rose (inl up) = up
risen None name rose (inr gone) = absurd gone
risen (Some files) name rose h = tt

pub fetch_counted : (files : Option (List File)) (name : List ℕ) (before now : ℕ) (f : Failure) → FetchFails files name before now f → IsCounted files (Rose before now) (Err f)
fetch_counted files name before now (F.Fault O.Folder) h = risen files name (Rose before now) h.1
fetch_counted files name before now (F.Fault O.Input) h = tt
fetch_counted files name before now (F.Fault O.Out) h = tt
fetch_counted files name before now (F.Fault O.Err) h = tt
fetch_counted files name before now f h = tt

pub file_counted : (IsLong : Failure → Type 0) (files : Option (List File)) (name : List ℕ) (before now : ℕ) (f : Failure) → FileFails IsLong files name before now f → IsCounted files (Rose before now) (Err f)
file_counted IsLong files name before now (F.Fault O.Folder) h = risen files name (Rose before now) h.1
file_counted IsLong files name before now (F.Fault O.Input) h = tt
file_counted IsLong files name before now (F.Fault O.Out) h = tt
file_counted IsLong files name before now (F.Fault O.Err) h = tt
file_counted IsLong files name before now f h = tt

rose_untold : (files : Option (List File)) (a b : Type 0) → (a → b) → RoseUntold files a → RoseUntold files b
rose_untold None a b up h = up h
rose_untold (Some files) a b up h = tt

any_untold : (files : Option (List File)) (a : Type 0) → a → RoseUntold files a
any_untold None a h = h
any_untold (Some files) a h = tt

pub stored_counted : (files : Option (List File)) (before mid now : ℕ) (o : Outcome) → before ≤ mid → IfErr o (StoreFails mid now) → IsCounted files (Rose before now) o
stored_counted files before mid now (Ok text) le h = tt
stored_counted files before mid now (Err (F.Fault O.Folder)) le h = any_untold files (Rose before now) (rose_later before mid now le h.1)
stored_counted files before mid now (Err (F.Fault O.Input)) le h = tt
stored_counted files before mid now (Err (F.Fault O.Out)) le h = tt
stored_counted files before mid now (Err (F.Fault O.Err)) le h = tt
stored_counted files before mid now (Err f) le h = tt

pub judged_counted : (Rejects : List ℕ → Refusal → Type 0) (files : Option (List File)) (name : List ℕ) (before now : ℕ) (o : Outcome) → IfErr o (JudgeFails Rejects files name before now) → IsCounted files (Rose before now) o
judged_counted Rejects files name before now (Ok text) h = tt
judged_counted Rejects files name before now (Err (F.Fault O.Folder)) h = risen files name (Rose before now) h.1
judged_counted Rejects files name before now (Err (F.Fault O.Input)) h = tt
judged_counted Rejects files name before now (Err (F.Fault O.Out)) h = tt
judged_counted Rejects files name before now (Err (F.Fault O.Err)) h = tt
judged_counted Rejects files name before now (Err f) h = tt

-- the same of a later call
pub counted_later : (files later : Option (List File)) (before mid now : ℕ) (o : Outcome) → later ≡ files → before ≤ mid → IsCounted later (Rose mid now) o → IsCounted files (Rose before now) o
counted_later files later before mid now o same le h = by o (subst (λ x. IsCounted x (Rose mid now) o) same h)
  where
    by : (o : Outcome) → IsCounted files (Rose mid now) o → IsCounted files (Rose before now) o
    by (Ok text) h = tt
    by (Err (F.Fault O.Folder)) h = rose_untold files (Rose mid now) (Rose before now) (rose_later before mid now le) h
    by (Err (F.Fault O.Input)) h = tt
    by (Err (F.Fault O.Out)) h = tt
    by (Err (F.Fault O.Err)) h = tt
    by (Err f) h = tt
