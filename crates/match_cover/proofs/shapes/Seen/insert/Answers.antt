use Rattle.std.proofs.Common.{sym, ◌∙◌, ap, not}
use Rattle.fip_language.specs.Declarations.{same_name}
use Rattle.match_cover.specs.Shapes.{is_met}
use Rattle.match_cover.proofs.ShapeSteps.{list_any-map}
use Rattle.match_cover.proofs.shapes.Seen.insert.Goals as goal

pub returns-clause-new : goal.returns-clause-new
returns-clause-new c = c.in_ok-new.ensures.added ∙ ap not (sym (list_any-map (same_name c.args.name.now) (λ k. k.now) c.self.inside.names.keys) ∙ ap (is_met c.args.name.now) c.self.view_is)
