use Rattle.std.proofs.Common.{◌≡◌, true, false, [], ◌∷◌, ap, sym, ◌∙◌}
use Rattle.std.specs.Prelude.{is_some}
use Rattle.cell_store.specs.Reported.{Overwritten}
use Rattle.cell_trace.proofs.Tapes.{lost_events}
use Rattle.cell_trace.proofs.tape.Tape.put.Goals as goal

pub returns-then-is_some : goal.returns-then-is_some
returns-then-is_some c = record {
  noted = λ cells es n limit a. lost_events cells es (record { step = n; reported = Overwritten c.args.place c.args.tag c.args.words.now } ∷ []) n limit c.args.self.now (λ none. let z : true ≡ false = sym c.if-is_some.true ∙ c.is_some.ensures ∙ ap is_some none in absurd cc) a;
}
