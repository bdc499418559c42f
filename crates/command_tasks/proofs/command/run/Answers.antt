use Rattle.std.proofs.Common.{◌∙◌, [], List, ℕ, Vec, Global, length, ap, subst, sym}
use Rattle.std.specs.Prelude.{IfOk}
use Rattle.cell_code.specs.declared.code.Code.{Code}
use Rattle.fip_tasks.specs.machine_semantics.Cells.{Store}
use Rattle.fip_tasks.specs.Shown.{AreStarted, Shows}
use Rattle.fip_tasks.specs.declared.task.Start.{Start}
use Rattle.fip_tasks.specs.machine_cells.Small.{store_of}
use Rattle.cell_code.specs.Plain.{plain}
use Rattle.command_session.proofs.command_run.machine_correctness.Literals.{has_literals}
use Rattle.command_tasks.specs.Called.{AreCallLines}
use Rattle.command_tasks.specs.Telling.{AreTaskLines, EndAs, ShowsSome}
use Rattle.command_tasks.proofs.Answering.{of_ok}
use Rattle.command_tasks.proofs.Running.{are_running}
use Rattle.command_tasks.proofs.command.run.Goals as goal

pub returns : goal.returns
returns c = record {
  lines = λ source core cs of readable named are.
      let v = c.args.verified.now in
      let code = of (has_literals (plain v.code) c.code.ensures.literals) in
      let starts = c.in_ok-loader.starts.items in
      let s : Store = store_of c.in_ok-loader.loader.cells c.in_ok-loader.loader.released in
      let ready = c.in_ok-loader.ensures.ready readable c.new-loader.ensures.cells cs are in
      let r = are_running source core v c.args.room cs s ready.lying starts code named ready.apart ready.started in
      let first : Shows v c.in_ok-tasks.tasks r.first = c.in_ok-tasks.ensures.first r.first (subst (λ (bs : List Start). AreStarted v s bs r.first) (sym c.as_slice.ensures.value) r.started) in
      let shows : ShowsSome v r.kinds r.first c.take_turns.new.tasks = c.take_turns.ensures.shows v r.kinds r.first r.can ([], first) in
      of_ok c.answers.result (λ (t : Vec ℕ Global). AreTaskLines v.code 0 starts r.means t.items) (λ t. AreCallLines core v.code c.args.room 0 cs t.items) (λ t h. r.lines t.items h)
      (subst (λ (x : Code). IfOk c.answers.result (λ (t : Vec ℕ Global). AreTaskLines x 0 starts r.means t.items)) c.code.ensures.same
      (subst (λ (bs : List Start). IfOk c.answers.result (λ (t : Vec ℕ Global). AreTaskLines c.code.result.now 0 bs r.means t.items)) c.as_slice-2.ensures.value
      (c.answers.ensures.lines v r.kinds r.first r.means (sym c.code.ensures.same) r.can shows (r.long ∙ sym (ap length c.as_slice-2.ensures.value)) (subst (λ (bs : List Start). EndAs v r.kinds r.first bs r.means) (sym c.as_slice-2.ensures.value) r.ends))));
}
