use Rattle.std.proofs.Common.{◌≡◌, ◌∙◌, ◌++◌, [], Vec, Global, ℕ, sym}
use Rattle.std.specs.Prelude.{codes}
use Rattle.fip_machine.specs.Tasks.{state_with}
use Rattle.command_session.specs.command_run.machine_correctness.Meant.{ArePrintable}
use Rattle.command_session.specs.command_run.session_semantics.Turns.{joined}
use Rattle.command_tasks.specs.Telling.{ReportsAnswer, result_types}
use Rattle.command_tasks.proofs.Answering.{all_of_ok, joined_line, value_reported}
use Rattle.command_tasks.proofs.printing.answer_text.Goals as goal

pub returns-in-None : goal.returns-in-None
returns-in-None c = record {
  reports = λ a m at small answers.
      let b = c.args.start.now in
      let code = c.args.code.now in
      let types = result_types code b.entry in
      all_of_ok c.results_text.result (ArePrintable code.types c.args.tasks.now.store.cells types a.stack.given) (λ (t : Vec ℕ Global) vs. t.items ≡ joined code.types types vs [] ++ codes "\n") (λ t. ReportsAnswer code.types types b.calls b.frames m t.items)
      (λ t reported. value_reported code.types types b.calls b.frames c.args.ended (state_with a.stack [] c.args.tasks.now.store) a.stack.given m t.items (sym c.failure_of.ensures.exact ∙ c.in-None.is) (λ vs are. reported vs are ∙ joined_line code.types types vs) answers)
      (λ vs are. c.results_text.ensures.line a vs at small are);
}
