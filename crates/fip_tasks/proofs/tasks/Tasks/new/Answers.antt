-- The cells of each are counted.
use Rattle.std.proofs.Common.{◌≡◌, ℕ, Some, true, refl}
use Rattle.std.proofs.lemmas.Result.{IfOk-weaker}
use Rattle.std.specs.Prelude.{slice_get}
use Rattle.fip_tasks.specs.Gauged.{HoldsAtStart}
use Rattle.fip_tasks.specs.Turns.{Standing, Turns}
use Rattle.fip_tasks.specs.declared.task.Start.{Start}
use Rattle.fip_tasks.proofs.tasks.Tasks.new.Goals as goal

pub returns-clause-started : goal.returns-clause-started
returns-clause-started c =
    let held = λ (t : Turns). (k : ℕ) (b : Start) (a : Standing) → slice_get c.args.starts.now k ≡ Some b → slice_get t.tasks k ≡ Some a → HoldsAtStart c.args.verified.now c.args.loader.cells b a.started in
    IfOk-weaker c.begin.result (λ (t : Turns). true ≡ true → held t) held (λ t h. h refl) c.begin.ensures.started
