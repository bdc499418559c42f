-- What a command that stores leaves of the files.
use Rattle.std.proofs.Common.{◌≡◌, ◌≤◌, ℕ, List, subst, refl, inl, inr}
use Rattle.std.specs.Prelude.{Option, Some, None, Ok, Err, IfErr}
use Rattle.fip_outside.specs.Faults.{Rose}
use Rattle.fip_outside.specs.Files.{File}
use Rattle.command_words.specs.Words.{Command}
use Rattle.command_outcome.specs.declared.failure.Failure.{Failure}
use Rattle.command_outcome.specs.declared.failure.Failure.TheVariants as F
use Rattle.command_outcome.specs.declared.failure.Object.TheVariants as O
use Rattle.fip_driver.specs.Fetched.{StoreFails, StoreKeeps}
use Rattle.command_answers.specs.Stored.{IsMadeBy, Stores}
use Rattle.fip_driver.specs.Delivered.{Outcome}
use Rattle.fip_driver.specs.Turns.{end_of}
use Rattle.fip_driver.specs.Outcome.{AreKept}
use Rattle.fip_driver.proofs.SourceEnds.{rose_later}

pub unstored : (c : Command) (left : Option (List ℕ)) (name : List ℕ) (rose : Type 0) (old new : Option (List File)) (f : Failure) → new ≡ old → AreKept c left (Some name) rose old new (Err f)
unstored c left name rose old new (F.Fault O.Folder) e = inl e
unstored c left name rose old new (F.Fault O.Input) e = e
unstored c left name rose old new (F.Fault O.Out) e = e
unstored c left name rose old new (F.Fault O.Err) e = e
unstored c left name rose old new f e = e

-- of no command's turn
pub nothing_stored : (c : Command) (left stored : Option (List ℕ)) (rose : Type 0) (files : Option (List File)) (f : Failure) → AreKept c left stored rose files files (Err f)
nothing_stored c left None rose files f = refl
nothing_stored c left (Some name) rose files f = unstored c left name rose files files f refl

pub stored_kept : (c : Command) (left : Option (List ℕ)) (name bytes : List ℕ) (old mid new : Option (List File)) (before between now : ℕ) (o : Outcome) → mid ≡ old → before ≤ between → IsMadeBy c left old bytes → IfErr o (StoreFails between now) → StoreKeeps name bytes mid new o → AreKept c left (Some name) (Rose before now) old new o
stored_kept c left name bytes old mid new before between now o same le made fails kept = by o fails (subst (λ x. StoreKeeps name bytes x new o) same kept)
  where
    by : (o : Outcome) → IfErr o (StoreFails between now) → StoreKeeps name bytes old new o → AreKept c left (Some name) (Rose before now) old new o
    by (Ok text) fails k = record { others = k.0; bytes = bytes; there = k.1; made = made }
    by (Err (F.Fault O.Folder)) fails k = inr (rose_later before between now le fails.1, record { others = k; bytes = bytes; made = made })
    by (Err (F.Fault O.Input)) fails k = k
    by (Err (F.Fault O.Out)) fails k = k
    by (Err (F.Fault O.Err)) fails k = k
    by (Err f) fails k = k

-- where the folder didn't fail, the files are those of the answer
pub stored_as : (c : Command) (name : Option (List ℕ)) (files : List File) (input : List ℕ) (rose : Type 0) (new : Option (List File)) (o : Outcome) → (rose → ⊥) → AreKept c (Some input) name rose (Some files) new o → Stores c files input name (end_of o) new
stored_as c None files input rose new o fine h = h
stored_as c (Some name) files input rose new (Ok text) fine h = h
stored_as c (Some name) files input rose new (Err (F.Fault O.Folder)) fine (inl same) = same
stored_as c (Some name) files input rose new (Err (F.Fault O.Folder)) fine (inr h) = absurd (fine h.0)
stored_as c (Some name) files input rose new (Err (F.Fault O.Input)) fine h = h
stored_as c (Some name) files input rose new (Err (F.Fault O.Out)) fine h = h
stored_as c (Some name) files input rose new (Err (F.Fault O.Err)) fine h = h
stored_as c (Some name) files input rose new (Err f) fine h = h

-- a failure leaves all as they were
pub failed_kept : (c : Command) (name : Option (List ℕ)) (files : List File) (input : List ℕ) (new : Option (List File)) (f : Failure) → Stores c files input name (Err f) new → new ≡ Some files
failed_kept c None files input new f h = h
failed_kept c (Some name) files input new f h = h
