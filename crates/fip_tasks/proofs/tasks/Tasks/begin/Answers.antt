-- A task more is new, and new tasks stand where their functions are loaded.
use Rattle.std.proofs.Common.{◌≡◌, ◌++◌, ◌∷◌, [], List, Some, true, length, refl, sym, ap, subst, arith, length-append}
use Rattle.std.proofs.lemmas.Option.{slice_get_read}
use Rattle.std.specs.Prelude.{slice_get}
use Rattle.task_semantics.specs.machine_semantics.Cells.{Store}
use Rattle.fip_machine.specs.machine_cells.Small.{IsSmall, store_of}
use Rattle.fip_tasks.specs.declared.task.Task.{Task}
use Rattle.cell_store.specs.Cells.{Cells}
use Rattle.fip_tasks.specs.Gauged.{HoldsAtStart}
use Rattle.fip_tasks.proofs.Turning.{AreNew, new_more, new_shows, AreHeld, held_more, held_seen, AreBegun, begun_more, new_followed}
use Rattle.fip_tasks.proofs.tasks.Tasks.begin.Goals as goal

pub loop-start-preserved : goal.loop-start-preserved
loop-start-preserved c =
    let v = c.args.verified.now in
    let starts = c.args.starts.now in
    let old = c.loop-start.tasks.items in
    let task = c.in_ok-new.field-0 in
    let at : slice_get starts (length old) ≡ Some c.start-item.result =
    subst (λ n. slice_get starts n ≡ Some c.start-item.result) (sym c.loop-start.invariant.number) (slice_get_read starts (length starts) c.loop-start.start-index c.start-item.result refl c.loop-start-test.true c.start-item.is) in
    let held : c.args.counts ≡ true → AreHeld v c.args.loader.cells starts (old ++ task ∷ []) = λ e. held_more v c.args.loader.cells starts old c.start-item.result task at (c.loop-start.invariant.held e) (subst (λ (cs : Cells). HoldsAtStart v cs c.start-item.result task.started) c.seal-cells.ensures.cells (c.in_ok-new.ensures.held e)) in
    let are : AreNew v starts (old ++ task ∷ []) = new_more v starts old c.start-item.result task at c.loop-start.invariant.each c.in_ok-new.ensures.new in
    record {
      number = (let e = ap length c.in_ok-push.ensures.items in let f = length-append old (task ∷ []) in let n = c.loop-start.invariant.number in omega (arith, e, f, n));
      each = subst (λ (ts : List Task). AreNew v starts ts) (sym c.in_ok-push.ensures.items) are;
      begun = subst (λ (ts : List Task). AreBegun v starts ts) (sym c.in_ok-push.ensures.items) (begun_more v starts old c.start-item.result task at c.loop-start.invariant.begun c.in_ok-new.ensures.begins);
      held = λ e. subst (λ (ts : List Task). AreHeld v c.args.loader.cells starts ts) (sym c.in_ok-push.ensures.items) (held e);
    }

pub returns-clause-first : goal.returns-clause-first
returns-clause-first c shared started =
    let cells = c.seal-cells.result in
    let first : Store = store_of c.args.loader.cells c.args.loader.released in
    let same : store_of cells.cells cells.released ≡ first = λ i. store_of (c.seal-cells.ensures.cells i) (c.seal-cells.ensures.released i) in
    let few = c.left-left.ensures.few in
    let small : IsSmall first.cells = omega (arith, few) in
    let number : length c.loop-start.tasks.items ≡ length c.args.starts.now = (let n = c.loop-start.invariant.number in let m = c.loop-start.auto.start-index-end in let f = c.loop-start-test.false in omega (arith, n, m, f)) in
    new_shows c.args.verified.now c.args.starts.now c.loop-start.tasks.items cells first shared c.loop-start.invariant.each number same small c.seal-cells.ensures.pushed started

pub returns-clause-followed : goal.returns-clause-followed
returns-clause-followed c kinds shared started =
    let cells = c.seal-cells.result in
    let first : Store = store_of c.args.loader.cells c.args.loader.released in
    let same : store_of cells.cells cells.released ≡ first = λ i. store_of (c.seal-cells.ensures.cells i) (c.seal-cells.ensures.released i) in
    let few = c.left-left.ensures.few in
    let small : IsSmall first.cells = omega (arith, few) in
    let number : length c.loop-start.tasks.items ≡ length c.args.starts.now = (let n = c.loop-start.invariant.number in let m = c.loop-start.auto.start-index-end in let f = c.loop-start-test.false in omega (arith, n, m, f)) in
    new_followed c.args.verified.now kinds c.args.starts.now c.loop-start.tasks.items cells first shared c.loop-start.invariant.each c.loop-start.invariant.begun number same small c.seal-cells.ensures.pushed started

pub returns-clause-started : goal.returns-clause-started
returns-clause-started c e k b a at is = held_seen c.args.verified.now c.args.loader.cells c.args.starts.now c.loop-start.tasks.items k b a (c.loop-start.invariant.held e) at is
