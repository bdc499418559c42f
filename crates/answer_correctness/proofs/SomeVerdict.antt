-- `audit` is never without an answer, where the source's types and matches are right or it has an early report.
-- Idea: bytes are a derivation's text or go wrong at a place; and entries that are no derivation of the program are reported.
use Rattle.std.proofs.Common.{◌≡◌, ◌≤◌, ◌<◌, inl, inr, ℕ, List, Option, Some, None, length, refl}
use Rattle.std.specs.Fmt.{decimal}
use Rattle.std.specs.Prelude.{◌⊎◌, Ok, Err}
use Rattle.command_answers.proofs.command_library.fip_language.Search.{le_or_less}
use Rattle.command_answers.specs.command_library.fip_language.Prefix as P
use Rattle.command_answers.specs.command_library.fip_language.declared.limits.TheConstants.{MOST_FILE_BYTES}
use Rattle.command_answers.specs.command_library.fip_language.declared.rule.Rule.TheVariants.{E72, E73}
use Rattle.command_answers.specs.command_library.fip_base.declared.refusal.Refusal.{Refusal}
use Rattle.command_answers.specs.command_library.command_outcome.Successes.{derived_text}
use Rattle.command_answers.specs.command_library.command_outcome.declared.failure.Failure.TheVariants as F
use Rattle.command_answers.specs.command_library.command_outcome.declared.failure.Object.TheVariants as O
use Rattle.command_answers.specs.command_library.command_source.Judged.{IsBadAt, IsEarlyReport, IsProofFile}
use Rattle.command_answers.specs.command_library.command_source.Wanted.{of_entry}
use Rattle.command_answers.specs.command_library.derivation_text.ProofText.{IsProofText}
use Rattle.command_answers.proofs.command_library.derivation_text.Exact.{stops, accepts_texts}
use Rattle.command_answers.proofs.command_library.derivation_text.Residual.{zippers}
use Rattle.command_answers.specs.command_library.derivation_text.Machine.{Made, step, final, start}
use Rattle.command_answers.specs.command_library.derivation_trees.Trees.{Entry}
use Rattle.worked_examples.specs.fip_trees.Tree.{Program}
use Rattle.worked_examples.specs.source_report.Report.{bare, IsMatched}
use Rattle.command_answers.specs.Ends.{Judges, Audits, Reported, NoProof, Judged}
use Rattle.command_answers.specs.Exec.{End}

text_or_place : (bytes : List ℕ) → ((es : List Entry) × IsProofText bytes es) ⊎ ((at : ℕ) × P.IsPlace IsProofText bytes at)
text_or_place bytes = by (P.run (step zippers) final (start zippers) bytes 0) refl
  where
    by : (x : P.Outcome (List Made)) → P.run (step zippers) final (start zippers) bytes 0 ≡ x → ((es : List Entry) × IsProofText bytes es) ⊎ ((at : ℕ) × P.IsPlace IsProofText bytes at)
    by (P.Stopped at) e = inr (at, stops bytes at e)
    by (P.Accepted x) e = let t = accepts_texts bytes x e in inl (t.0, t.1)

-- a proof file of a program whose types and matches are right is judged
module _ (p : Program) (bytes : List ℕ) (none : (e : End) → Judges p bytes e → ⊥) where
  refused : (file : IsProofFile bytes) → ⊥
  refused file = none (Err (F.Refused (bare E73))) (inr (file, (λ k. none (Ok derived_text) (k, refl)), refl))

  bad : (at : ℕ) → IsBadAt bytes at → ⊥
  bad at h = none (Err (F.Refused (of_entry E72 (decimal at)))) (inl (at, h, refl))

  some_verdict : ⊥
  some_verdict = elim (le_or_less (length bytes) MOST_FILE_BYTES) as (λ v. ⊥) [
    | inr long ↦ bad MOST_FILE_BYTES (inl (long, refl))
    | inl short ↦ elim (text_or_place bytes) as (λ v. ⊥) [
      | inl text ↦ refused (record { short = short; derivation = text.0; text = text.1 })
      | inr place ↦ bad place.0 (inr (short, place.1))
    ]
  ]

pub some_audit : (source : List ℕ) (proof : Option (List ℕ)) → ((p : Program) × IsMatched source p) ⊎ ((r : Refusal) × IsEarlyReport source r) → ((e : End) → Audits source proof e → ⊥) → ⊥
some_audit source proof (inr (r, h)) none = none (Err (F.Refused r)) (Reported r proof h)
some_audit source None (inl (p, h)) none = none (Err (F.Fault O.Folder)) (NoProof p h)
some_audit source (Some bytes) (inl (p, h)) none = some_verdict p bytes (λ e v. none e (Judged p bytes e h v))
