use Rattle.std.proofs.Common.{[], ◌∷◌, Some, refl}
use Rattle.command_answers.specs.command_library.command_words.Words.{Check, Compile, Exec, Eval, Trace, Tasks, Derive}
use Rattle.command_answers.specs.command_library.command_source.Wanted.{Lawful, Root, Compiled}
use Rattle.command_answers.specs.Ends as A
use Rattle.answer_correctness.proofs.Coming.{of_source, of_audit}
use Rattle.answer_correctness.proofs.EmptySource as E
use Rattle.answer_correctness.proofs.empty.an_empty_source_is_answered.Goals as goal

pub returns : goal.returns
returns c = record {
  check = λ files input name f. of_source files [] input name (Check name) Lawful _ refl refl f (A.Ready _ E.ready (λ h. absurd h) E.listing);
  compile = λ files input name out f.
      of_source files [] input name (Compile name out) Lawful _ refl refl f (A.Ready _ E.ready (λ h. absurd h) E.listing);
  exec = λ files input r f.
      of_source files [] input r.file (Exec r) (Compiled r.entry) _ refl refl f (A.Refused _ (E.no_code r.entry));
  eval = λ files input name entry calls frames f.
      of_source files [] input name (Eval name entry calls frames) (Root entry) _ refl refl f (A.Refused _ (E.no_root entry));
  trace = λ files input name entry out room f.
      of_source files [] input name (Trace name entry out room) (Compiled entry) _ refl refl f (A.Refused _ (E.no_code entry));
  session = E.talks;
  bad_line = E.talks_badly;
  tasks = λ files name seed turns room f.
      of_source files [] [] name (Tasks name seed turns room) Lawful _ refl refl f (A.Ready _ E.ready (λ h. E.no_bytes) (E.comes room));
  bad_task = λ files name seed turns room f.
      of_source files [] (10 ∷ []) name (Tasks name seed turns room) Lawful _ refl refl f
      (A.Ready _ E.ready (λ h. E.one_byte) (E.comes_badly room));
  derive = λ files input name out f.
      of_source files [] input name (Derive name out) Lawful _ refl refl f (A.Ready _ E.ready (λ h. absurd h) E.derives);
  audit = λ files input name proof f k. of_audit files [] input name proof (Some []) _ f k E.judged;
}
