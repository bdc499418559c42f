use Rattle.std.proofs.Common.{◌∙◌, ap}
use Rattle.fip_trees.specs.Names.{meaning}
use Rattle.fip_trees.proofs.MeaningLists.{meaning_seen}
use Rattle.fip_trees.proofs.meanings.Meanings.find.Goals as goal

pub returns : goal.returns
returns g c = record { meaning = c.copied.ensures ∙ c.get.ensures.value ∙ meaning_seen (λ k. k.now) c.args.name.now c.self.inside.meanings.entries ∙ ap (meaning c.args.name.now) c.self.view_is }
