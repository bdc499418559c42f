-- The store stays as it is, and the cells before the next one are kept.
use Rattle.std.proofs.Common.{◌≡◌, ◌≢◌, None, IfSome}
use Rattle.cell_store.specs.Cells.{cell_at}
use Rattle.cell_trace.proofs.Tapes.{HasLoaded, left_behind}
use Rattle.cell_trace.proofs.recorder.Recorder.load.Given as goal

abbrev pub invariant-loop-next : goal.invariant-loop-next
invariant-loop-next l = record {
  same : l.self.store ≡ l.initial.self.store;
  there : IfSome l.next (λ q. cell_at l.self.store.cells q ≢ None);
  loaded : HasLoaded l.initial.self.store.cells l.next l.initial.self.tape l.self.tape;
}

abbrev pub decreases-loop-next : goal.decreases-loop-next
decreases-loop-next l = left_behind l.self.store.cells l.next
