use Rattle.std.proofs.Common.{◌≡◌, true, false, [], ◌∷◌, ap, sym, ◌∙◌}
use Rattle.std.specs.Prelude.{is_some}
use Rattle.cell_trace.proofs.Tapes.{lost_cells}
use Rattle.cell_trace.proofs.tape.Tape.is_lost.Goals as goal

pub returns-clause-lost : goal.returns-clause-lost
returns-clause-lost c lost cells limit a d = lost_cells cells (d ∷ []) [] 0 limit c.args.self.now (λ none. let z : true ≡ false = sym lost ∙ c.is_some.ensures ∙ ap is_some none in absurd cc) a
