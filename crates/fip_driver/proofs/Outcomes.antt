-- What words end in, where they are no command or memory runs out; and the whole answer by what they end in.
use Rattle.std.proofs.Common.{◌≡◌, ℕ, List, [], sym, subst, inl, inr}
use Rattle.std.specs.Prelude.{◌⊎◌, Option, Some, Result, Ok, Err}
use Rattle.std.specs.declared.vec.Vec.{Vec}
use Rattle.std.specs.declared.alloc.Global.{Global}
use Rattle.fip_outside.specs.Faults.{Rose}
use Rattle.fip_outside.specs.Files.{File}
use Rattle.command_words.specs.Words.{Command, IsCommand}
use Rattle.command_outcome.specs.declared.failure.Failure.{Failure}
use Rattle.command_outcome.specs.declared.failure.Failure.TheVariants as F
use Rattle.command_answers.specs.Answer.{IsNoCommand, host, Answered}
use Rattle.command_answers.specs.Asks.{stored_name}
use Rattle.fip_driver.specs.Delivered.{Seen, Delivered}
use Rattle.fip_driver.specs.Turns.{IsUnasked, WordsOutcome, IsUntoldAudit, Closes, end_of}
use Rattle.fip_driver.specs.Outcome.{AreKept, HadFolder}
use Rattle.fip_driver.proofs.Storing.{failed_kept, stored_as}
use Rattle.fip_driver.proofs.Telling.{any_reported}
use Rattle.fip_driver.proofs.WholeAnswer.{unasked_answer, closed_answer}

-- ---- the words

pub no_command_outcome : (words : List (List ℕ)) (files : Option (List File)) (left : Option (List ℕ)) (folder_rose rose : Type 0) → IsNoCommand words → WordsOutcome words files left folder_rose rose (Err F.NotUnderstood)
no_command_outcome words files left fr rose h =
    let t = any_reported files [] in
    let i = any_reported left [] in
    (t.0, i.0, t.1, i.1, inl h)

pub no_memory_outcome : (words : List (List ℕ)) (files : Option (List File)) (left : Option (List ℕ)) (folder_rose rose : Type 0) → WordsOutcome words files left folder_rose rose (Err F.NoMemory)
no_memory_outcome words files left fr rose =
    let t = any_reported files [] in
    let i = any_reported left [] in
    (t.0, i.0, t.1, i.1, inl tt)

-- ---- the whole

-- a folder that is the same has the same files
pub kept_or_had : (words : List (List ℕ)) (old now : Option (List File)) (o : Result (Vec ℕ Global) Failure) (same : Type 0) → (same → now ≡ old) → same ⊎ HadFolder words o → (now ≡ old) ⊎ HadFolder words o
kept_or_had words old now o same up (inl e) = inl (up e)
kept_or_had words old now o same up (inr had) = inr had

module _ (words : List (List ℕ)) (files : List File) (input : List ℕ) (out out' err err' : Seen) (now : Option (List File)) (folder_rose input_rose : Type 0) (no_folder : folder_rose → ⊥) (no_input : input_rose → ⊥) (no_out : Rose out.faults out'.faults → ⊥) (no_err : Rose err.faults err'.faults → ⊥) (o : Result (Vec ℕ Global) Failure) (s : ℕ) where
  abbrev Whole : List File → List ℕ → Type 0
  Whole fs bytes = Answered words fs bytes (host out.written out'.written err.written err'.written now s)

  -- what words end in, of these files and this input
  abbrev Come : List File → List ℕ → Type 0
  Come fs bytes = IsUnasked words o ⊎ ((c : Command) × IsCommand words c × Closes fs bytes c folder_rose input_rose (end_of o)) ⊎ ((c : Command) × IsCommand words c × IsUntoldAudit (Some files) c (end_of o))

  -- the files after words that are no command, or find no memory before
  unasked_kept : (p : Result (Vec ℕ Global) Failure) → IsUnasked words p → (now ≡ Some files) ⊎ HadFolder words p → ((c : Command) → IsCommand words c → AreKept c (Some input) (stored_name c) folder_rose (Some files) now p) → now ≡ Some files
  unasked_kept p h (inl same) kept = same
  unasked_kept (Ok text) h (inr had) kept = absurd h
  unasked_kept (Err f) h (inr had) kept =
      let c : Command = had.0 in
      failed_kept c (stored_name c) files input now f (stored_as c (stored_name c) files input folder_rose now (Err f) no_folder (kept c had.1))

  module _ (had : (now ≡ Some files) ⊎ HadFolder words o) (kept : (c : Command) → IsCommand words c → AreKept c (Some input) (stored_name c) folder_rose (Some files) now o) (d : Delivered out out' err err' o s) where
    reported_whole : Come files input → Whole files input
    reported_whole (inl h) = unasked_answer words files input out out' err err' now no_out no_err o s (unasked_kept o h had kept) h d
    reported_whole (inr (inl h)) =
        let stored = stored_as h.0 (stored_name h.0) files input folder_rose now o no_folder (kept h.0 h.1) in
        closed_answer words files input out out' err err' now no_out no_err h.0 folder_rose input_rose no_folder no_input o s h.1 h.2 stored d
    reported_whole (inr (inr h)) = absurd h.2

    -- where no count of faults rose, and the folder and the input report what they hold
    pub whole_outcome : WordsOutcome words (Some files) (Some input) folder_rose input_rose o → Whole files input
    whole_outcome h =
        reported_whole (subst (λ fs. Come fs input) (sym h.2) (subst (λ bytes. Come h.0 bytes) (sym h.3) h.4))
