-- What is asked, as the entry of its source; and the evaluation of its instance as what the source means.
use Rattle.std.proofs.Common.{◌≡◌, ◌∙◌, ℕ, ap}
use Rattle.command_library.specs.fip_language.Meaning.{Run, meaning}
use Rattle.command_library.specs.fip_language.Statics.{NoClosed}
use Rattle.command_library.specs.command_tasks.source_report.Report.{IsTyped}
use Rattle.command_library.proofs.command_source.specialisation_correctness.Meant.{root_meant}
use Rattle.command_library.specs.command_eval.EvalAnswer.{Entry}
use Rattle.command_library.proofs.command_eval.Meant.{typed_of}
use Rattle.command_library.proofs.command_run.Entry.{root_at}
use Rattle.command_answers.specs.Asked.{Asked, answer_of}

module _ (a : Asked) where
  abbrev pub types : IsTyped a.source a.program
  types = typed_of a.source a.program (a.rooted).accepted

  abbrev pub entry : Entry a.source a.name
  entry = record {
    core = types.flat.core;
    parsed = types.flat.declared.parsed;
    program = a.program;
    accepted = (a.rooted).accepted;
    root = (a.rooted).root;
    named = (a.rooted).named;
  }

  pub means : (calls frames : ℕ) → answer_of a calls frames ≡ (meaning types.flat.core a.name NoClosed a.arguments calls frames).answer
  means calls frames =
      let root = root_at a.name a.program.instances (a.rooted).root (a.rooted).named in
      ap (λ (r : Run). r.answer)
      (root_meant a.source a.program types types.flat.core types.flat.declared.parsed a.number (a.rooted).root a.arguments calls frames (a.rooted).there root.root
      ∙ ap (λ n. meaning types.flat.core n NoClosed a.arguments calls frames) root.named)
