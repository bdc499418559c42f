-- How an answer is shown: by cases on its end.
use Rattle.std.proofs.Common.{◌≡◌, ◌≢◌, ◌∙◌, inl, inr, ℕ, List, sym}
use Rattle.std.specs.Prelude.{◌⊎◌, Option, Some, None, Ok, Err}
use Rattle.command_answers.specs.fip_outside.Files.{File}
use Rattle.command_answers.specs.command_library.command_words.Words.{Command}
use Rattle.command_answers.specs.command_library.command_outcome.Failures.{failure_status}
use Rattle.command_answers.specs.command_library.command_outcome.declared.failure.Failure.{Failure}
use Rattle.command_answers.specs.command_library.command_outcome.declared.failure.Failure.TheVariants as F
use Rattle.command_answers.specs.Answer.{ComesTo, Shows, Host, IsAlone, IsNoCommand, Answered}
use Rattle.command_answers.specs.Open.{MayDiffer}
use Rattle.command_answers.specs.Asks.{stored_name}
use Rattle.command_answers.specs.Exec.{End}
use Rattle.command_answers.specs.Stored.{Stores}
use Rattle.command_answers.proofs.OneEnd.{comes_once}

-- a command whose end is one
pub settled : (files : List File) (input : List ℕ) (c : Command) (d e : End) → (MayDiffer c d e → ⊥) → ComesTo files input c d → ComesTo files input c e → d ≡ e
settled files input c d e one h k = elim (comes_once files input c d e h k) [ inl same ↦ same | inr more ↦ absurd (one more.0) ]

fails : (f : Failure) → failure_status f ≢ 0
fails F.NotUnderstood = λ e. absurd cc
fails (F.Refused r) = λ e. absurd cc
fails (F.BadCode at) = λ e. absurd cc
fails (F.Unsound function at rule) = λ e. absurd cc
fails (F.BadTrace at) = λ e. absurd cc
fails (F.BadInput at) = λ e. absurd cc
fails (F.BadTask line) = λ e. absurd cc
fails (F.TooSmall needed given) = λ e. absurd cc
fails (F.Trap kind line col) = λ e. absurd cc
fails (F.OutOfCalls given) = λ e. absurd cc
fails (F.OutOfFrames given) = λ e. absurd cc
fails (F.Fault object) = λ e. absurd cc
fails F.NoMemory = λ e. absurd cc

kept_by : (c : Command) (name : Option (List ℕ)) (files : List File) (input : List ℕ) (new : Option (List File)) (f : Failure) → Stores c files input name (Err f) new → new ≡ Some files
kept_by c None files input new f h = h
kept_by c (Some name) files input new f h = h

module _ (files : List File) (input : List ℕ) (h : Host) where
  end_fails : (c : Command) (e : End) → h.status ≢ 0 → Shows e h.out h.out' h.err h.err' h.status → Stores c files input (stored_name c) e h.files → (h.out' ≡ h.out) × (h.files ≡ Some files)
  end_fails c (Ok text) bad shown stored = absurd (bad shown.0)
  end_fails c (Err f) bad shown stored = (shown.1, kept_by c (stored_name c) files input h.files f stored)

  end_done : (e : End) → h.status ≡ 0 → Shows e h.out h.out' h.err h.err' h.status → h.err' ≡ h.err
  end_done (Ok text) good shown = shown.1
  end_done (Err f) good shown = absurd (fails f (sym shown.0 ∙ good))

  pub nothing_done : (words : List (List ℕ)) → Answered words files input h → h.status ≢ 0 → (h.out' ≡ h.out) × (h.files ≡ Some files)
  nothing_done words (inl a) bad = (a.unwritten, a.kept)
  nothing_done words (inr (inl a)) bad = (a.1.unwritten, a.1.kept)
  nothing_done words (inr (inr a)) bad = end_fails a.0 a.2.end bad a.2.shown a.2.stored

  alone : (status : ℕ) (text : List ℕ) → (status ≡ 0 → ⊥) → IsAlone files status text h → h.status ≡ 0 → h.err' ≡ h.err
  alone status text bad a good = absurd (bad (sym a.ended ∙ good))

  pub nothing_reported : (words : List (List ℕ)) → Answered words files input h → h.status ≡ 0 → h.err' ≡ h.err
  nothing_reported words (inl a) good = alone 10 _ (λ e. absurd cc) a good
  nothing_reported words (inr (inl a)) good = alone 2 _ (λ e. absurd cc) a.1 good
  nothing_reported words (inr (inr a)) good = end_done a.2.end good a.2.shown

  pub unknown_words : (words : List (List ℕ)) → IsNoCommand words → Answered words files input h → (h.status ≡ 10) ⊎ (h.status ≡ 2)
  unknown_words words none (inl a) = inl a.ended
  unknown_words words none (inr (inl a)) = inr a.1.ended
  unknown_words words none (inr (inr a)) = absurd (none a.0 a.1)
