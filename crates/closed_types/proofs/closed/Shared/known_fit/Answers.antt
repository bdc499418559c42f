use Rattle.std.proofs.Common.{◌∙◌, subst, IfSome}
use Rattle.closed_types.specs.SharedTrees.{IsNoted, Kept}
use Rattle.closed_types.proofs.FitNotes.{known_noted}
use Rattle.closed_types.proofs.closed.Shared.known_fit.Goals as goal

pub returns : goal.returns
returns c =
    subst (λ (k : Kept). IfSome c.copied.result (λ b. IsNoted c.args.passing b k.fits)) c.self.view_is
    (known_noted c.self.inside.fits.entries c.args.passing c.copied.result (c.copied.ensures ∙ c.get.ensures.value))
