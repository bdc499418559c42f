use Rattle.std.proofs.Common.{◌≡◌, ◌∙◌, ℕ, None, refl, sym, ap, subst}
use Rattle.fip_machine.specs.machine_cells.Small.{store_of}
use Rattle.cell_code.specs.Plain.{plain}
use Rattle.session_correctness.specs.tree_refinement.machine_semantics.Runs.{loaded}
use Rattle.fip_session.proofs.Running.{machine_came}
use Rattle.fip_session.proofs.call.run_call.Goals as goal

pub returns : goal.returns
returns c = record {
  came = λ before waits kept s start f there fits is.
      let v = c.args.book.now.verified.now in
      let m = c.in_ok-machine.machine in
      let same : m.store ≡ store_of c.args.cells.cells c.args.cells.released = c.in_ok-machine.ensures.store ∙ ap (λ os. store_of os c.reopen-loader.result.released) c.reopen-loader.ensures.cells ∙ ap (λ rs. store_of c.args.cells.cells rs) c.reopen-loader.ensures.released in
      let at = c.in_ok-machine.ensures.loaded f there fits s (ap (λ t. loaded (plain v.code) c.args.entry t c.args.words.items c.args.frames) same ∙ is) in
      machine_came v before waits c.args.entry kept s c.args.book.now.room.calls c.run-ended.result m.stack m.store c.run-ended.new.self.stack c.run-ended.new.self.store c.in_ok-results.results.items (store_of c.into_sealed.result.cells c.into_sealed.result.released) start c.in_ok-machine.ensures.code at
      (λ kinds lent knows. c.run-ended.ensures.run kinds lent knows c.in_ok-machine.ensures.going c.in_ok-machine.ensures.small c.in_ok-machine.ensures.pushed)
      (c.in_ok-results.ensures.items ∙ c.results.ensures.given) c.into_sealed.ensures.cells;
}
