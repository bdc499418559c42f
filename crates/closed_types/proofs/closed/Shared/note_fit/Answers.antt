use Rattle.std.proofs.Common.{◌≡◌, ◌⊎◌, subst}
use Rattle.closed_types.specs.SharedTrees.{IsNoted, Kept}
use Rattle.closed_types.proofs.FitNotes.{noted_more}
use Rattle.closed_types.proofs.closed.Shared.note_fit.Goals as goal

pub returns-clause-noted : goal.returns-clause-noted
returns-clause-noted c = λ p b m.
    subst (λ (k : Kept). ((p ≡ c.args.passing) × (b ≡ c.args.fits)) ⊎ IsNoted p b k.fits) c.self.view_is
    (noted_more c.self.inside.fits.entries c.args.passing c.args.fits p b (subst (IsNoted p b) c.in_ok-insert.ensures.entries m))
