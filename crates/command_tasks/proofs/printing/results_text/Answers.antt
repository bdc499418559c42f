use Rattle.std.proofs.Common.{◌∙◌, ◌++◌, ◌∷◌, [], List, ℕ, ap, subst, sym}
use Rattle.fip_tasks.specs.machine_semantics.Cells.{Store}
use Rattle.fip_tasks.specs.machine_cells.Small.{IsSmall}
use Rattle.command_session.specs.command_run.machine_correctness.Meant.{ArePrintable}
use Rattle.command_session.specs.command_run.session_semantics.Turns.{joined}
use Rattle.command_tasks.specs.Telling.{result_types}
use Rattle.command_tasks.proofs.printing.results_text.Goals as goal

pub returns : goal.returns
returns c = record {
  line = λ a vs at small are.
      let tb = c.args.code.now.types in
      let types = c.result_types-types.result.now in
      let cells = c.cells.ensures.cells in
      let same = c.result_types-types.ensures.are in
      let few : IsSmall c.cells.result.now.cells = subst (λ (s : Store). IsSmall s.cells) (sym cells) small in
      let here : ArePrintable tb c.cells.result.now.cells types c.results.result.now vs = subst (λ (s : Store). ArePrintable tb s.cells types c.results.result.now vs) (sym cells) (subst (λ (ts : List ℕ). ArePrintable tb c.args.tasks.now.store.cells ts c.results.result.now vs) (sym same) (subst (λ (ws : List ℕ). ArePrintable tb c.args.tasks.now.store.cells (result_types c.args.code.now c.args.entry) ws vs) (sym (c.results.ensures.given a at)) are)) in
      c.in_ok-push.ensures.items ∙ ap (λ t. t ++ 10 ∷ []) (c.in_ok-text.ensures.joined vs few here ∙ ap (λ ts. joined tb ts vs []) same);
}
