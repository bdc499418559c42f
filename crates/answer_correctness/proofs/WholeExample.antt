-- A whole answer, from words: what words ask for is computed, rule by rule of the command line.
use Rattle.std.proofs.Common.{◌≡◌, ℕ, Bool, true, false, List, [], ◌∷◌, Option, Some, None, refl, sym, ap, inr, arith, if◌then◌else◌}
use Rattle.std.specs.Prelude.{codes, Ok, bytes_eq}
use Rattle.std.proofs.lemmas.Slice.Eq.{bytes_eq-Decides}
use Rattle.clap.specs.Faults.{walk_fault, defaults_fault}
use Rattle.clap.specs.Walk.{walked}
use Rattle.command_answers.specs.command_library.command_words.Words.{Check, Compile, IsCommand}
use Rattle.command_answers.specs.command_library.command_words.Words.{check_commands, file_commands, machine_commands, run_commands, line_commands}
use Rattle.command_answers.specs.command_library.command_words.Words.{proof_commands, paper_commands}
use Rattle.command_answers.specs.command_library.command_source.Wanted.{Lawful}
use Rattle.command_answers.specs.fip_outside.Files.{file_of}
use Rattle.command_answers.specs.Answer.{Answered, host}
use Rattle.command_answers.specs.CodeOf.{IsSourceFile}
use Rattle.command_answers.specs.Ends as A
use Rattle.worked_examples.specs.Empty.{empty_program}
use Rattle.worked_examples.proofs.Empty.{accepted}
use Rattle.answer_correctness.specs.Empty.{a_file, empty_code, empty_file}
use Rattle.answer_correctness.proofs.Coming.{of_source}
use Rattle.answer_correctness.proofs.EmptySource as E

asks_check : IsCommand (codes "fp2" ∷ codes "check" ∷ codes "a" ∷ []) (Check (codes "a"))
unfolding check_commands file_commands machine_commands run_commands line_commands proof_commands paper_commands walk_fault walked defaults_fault
asks_check = record { accepted = refl; rows = _; command = refl; asks = refl }

pub checked : (input : List ℕ) → Answered (codes "fp2" ∷ codes "check" ∷ codes "a" ∷ []) (a_file (codes "a") [] ∷ []) input (host (Some []) (Some []) (Some []) (Some []) (Some (a_file (codes "a") [] ∷ [])) 0)
checked input = inr (inr (
  Check (codes "a"),
  asks_check,
  record {
    end = Ok [];
    ends = of_source (a_file (codes "a") [] ∷ []) [] input (codes "a") (Check (codes "a")) Lawful _ refl refl refl (A.Ready _ E.ready (λ h. absurd h) E.listing);
    shown = (refl, refl, refl);
    stored = refl;
  },
))

-- ---- what is stored

asks_compile : IsCommand (codes "fp2" ∷ codes "compile" ∷ codes "a" ∷ codes "b" ∷ []) (Compile (codes "a") (codes "b"))
unfolding check_commands file_commands machine_commands run_commands line_commands proof_commands paper_commands walk_fault walked defaults_fault
asks_compile = record { accepted = refl; rows = _; command = refl; asks = record { one = refl; two = refl } }

others_kept : (other : List ℕ) → (other ≡ codes "b" → ⊥) → file_of other (a_file (codes "a") [] ∷ a_file (codes "b") empty_file ∷ []) ≡ file_of other (a_file (codes "a") [] ∷ [])
others_kept other differs = ap (λ (x : Option (List ℕ)). if bytes_eq (codes "a") other then Some [] else x) (none (bytes_eq (codes "b") other) refl)
  where
    none : (b : Bool) → bytes_eq (codes "b") other ≡ b → (if b then Some empty_file else None) ≡ None
    none true e = absurd (differs (sym ((bytes_eq-Decides (codes "b") other).0 e)))
    none false e = refl

empty_source_file : IsSourceFile [] empty_file
empty_source_file = record {
  code = empty_code;
  of' = record { program = empty_program; accepted = accepted; is = E.code_of_it };
  spelt = E.file_spelt;
  short = omega arith;
}

pub compiled : (input : List ℕ) → Answered (codes "fp2" ∷ codes "compile" ∷ codes "a" ∷ codes "b" ∷ []) (a_file (codes "a") [] ∷ []) input (host (Some []) (Some []) (Some []) (Some []) (Some (a_file (codes "a") [] ∷ a_file (codes "b") empty_file ∷ [])) 0)
compiled input = inr (inr (
  Compile (codes "a") (codes "b"),
  asks_compile,
  record {
    end = Ok [];
    ends = of_source (a_file (codes "a") [] ∷ []) [] input (codes "a") (Compile (codes "a") (codes "b")) Lawful _ refl refl refl (A.Ready _ E.ready (λ h. absurd h) E.listing);
    shown = (refl, refl, refl);
    stored = record { others = others_kept; bytes = empty_file; there = refl; made = ([], refl, empty_source_file) };
  },
))
