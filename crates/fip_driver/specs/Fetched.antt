-- It serves the proof of `fp2`: what can come of fetching a source and of reading an input.
use Rattle.std.specs.Prelude.{◌≡◌, ℕ, suc, List, [], ◌⊎◌, None, Option, Result, Ok, Err}
use Rattle.std.specs.declared.vec.Vec.{Vec}
use Rattle.std.specs.declared.alloc.Global.{Global}
use Rattle.fip_language.specs.declared.limits.TheConstants.{MOST_SOURCE_BYTES, MOST_FILE_BYTES}
use Rattle.fip_base.specs.declared.refusal.Refusal.{Refusal}
use Rattle.fip_language.specs.declared.rule.Rule.TheVariants.{E05, E70}
use Rattle.fip_outside.specs.Faults.{Rose}
use Rattle.fip_outside.specs.Files.{File, HoldsFile, HoldsLonger, IsMissing, KeepsOthers}
use Rattle.fip_outside.specs.Takes.{Takes}
use Rattle.command_outcome.specs.Stages.{IsOfSource, IsOfTrace}
use Rattle.command_outcome.specs.declared.failure.Object.TheVariants as O
use Rattle.command_outcome.specs.declared.failure.Failure.{Failure}
use Rattle.command_outcome.specs.declared.failure.Failure.TheVariants as F

-- the refusal of a source that is too long
abbrev pub too_long : Refusal
too_long = record { rule = E05; place = None; size = 0; detail = [] }

-- the refusal of a name that no function has
abbrev pub unknown_entry : List ℕ → Refusal
unknown_entry name = record { rule = E70; place = None; size = 0; detail = name }

-- why a source wasn't fetched, by the folder's files and its count of faults before and after
abbrev pub FetchFails : Option (List File) → List ℕ → ℕ → ℕ → Failure → Type 0
FetchFails files name before now (F.Refused r) = (r ≡ too_long) × HoldsLonger files name MOST_SOURCE_BYTES
FetchFails files name before now (F.Fault object) = (object ≡ O.Folder) × (Rose before now ⊎ IsMissing files name)
FetchFails files name before now F.NoMemory = Unit {0}
FetchFails files name before now failure = ⊥

-- why another file wasn't fetched, where too many bytes are reported so
abbrev pub FileFails : (Failure → Type 0) → Option (List File) → List ℕ → ℕ → ℕ → Failure → Type 0
FileFails IsLong files name before now (F.Fault object) =
    (object ≡ O.Folder) × (Rose before now ⊎ IsMissing files name)
FileFails IsLong files name before now F.NoMemory = Unit {0}
FileFails IsLong files name before now failure = IsLong failure × HoldsLonger files name MOST_FILE_BYTES

-- why a file wasn't stored
abbrev pub StoreFails : ℕ → ℕ → Failure → Type 0
StoreFails before now (F.Fault object) = (object ≡ O.Folder) × Rose before now
StoreFails before now F.NoMemory = Unit {0}
StoreFails before now failure = ⊥

-- the files after these bytes were stored under a name, or weren't
abbrev pub StoreKeeps : List ℕ → List ℕ → Option (List File) → Option (List File) → Result (Vec ℕ Global) Failure →
    Type 0
StoreKeeps name bytes old new (Ok text) = KeepsOthers old new name × HoldsFile new name bytes
StoreKeeps name bytes old new (Err (F.Fault O.Folder)) = KeepsOthers old new name
StoreKeeps name bytes old new (Err failure) = new ≡ old

-- why a proof file isn't accepted, its bytes refused so, or wasn't fetched
abbrev pub JudgeFails : (List ℕ → Refusal → Type 0) → Option (List File) → List ℕ → ℕ → ℕ → Failure → Type 0
JudgeFails Rejects files name before now (F.Refused r) =
    (bytes : List ℕ) × HoldsFile files name bytes × Rejects bytes r
JudgeFails Rejects files name before now (F.Fault object) =
    (object ≡ O.Folder) × (Rose before now ⊎ IsMissing files name)
JudgeFails Rejects files name before now F.NoMemory = Unit {0}
JudgeFails Rejects files name before now failure = ⊥

-- why an input wasn't read, by what was left of it before and after, and the count of faults before and after
abbrev pub ReadFails : Option (List ℕ) → Option (List ℕ) → ℕ → ℕ → Failure → Type 0
ReadFails left left' before now (F.BadInput at) = (at ≡ MOST_FILE_BYTES) × Takes left left' (suc MOST_FILE_BYTES)
ReadFails left left' before now (F.Fault object) = (object ≡ O.Input) × Rose before now
ReadFails left left' before now F.NoMemory = Unit {0}
ReadFails left left' before now failure = ⊥

-- why a file wasn't fetched, or what it has isn't taken; or that memory ran out
abbrev pub IsEarlyFailure : Failure → Type 0
IsEarlyFailure (F.Fault O.Folder) = Unit {0}
IsEarlyFailure (F.Fault object) = ⊥
IsEarlyFailure failure = IsOfSource failure

-- why an input wasn't read, or what is said of it, of a run on it and of a trace that is too long; or out of memory
abbrev pub IsLateFailure : Failure → Type 0
IsLateFailure (F.Fault O.Input) = Unit {0}
IsLateFailure (F.Fault object) = ⊥
IsLateFailure failure = IsOfTrace failure
