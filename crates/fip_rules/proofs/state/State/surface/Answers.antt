use Rattle.std.proofs.Common.{rules, ap, ◌∙◌, map, drop, length}
use Rattle.std.proofs.lemmas.List.{length-take-le}
use Rattle.fip_trees.specs.Least.{after}
use Rattle.fip_rules.specs.Marks.{reported}
use Rattle.fip_rules.specs.Notes.{exposed}
use Rattle.fip_rules.specs.Views.{mark_of}
use Rattle.fip_rules.proofs.Waits.{kept_marks, surfaced_step}
use Rattle.fip_rules.proofs.state.State.surface.Goals as goal

pub returns : goal.returns
returns c =
    record {
      surfaced = surfaced_step _ c.args.self.now (length c.truncate-2.new.self.items) c.args.kept.level c.args.kept.waiting c.args.kept.used c.note_exposed.new.least _
          (ap length c.truncate-2.ensures.items ∙ length-take-le c.args.kept.level c.self.inside.around.items (search rules))
          (c.in_ok-note_exposed.ensures ∙ ap (λ ms. after c.self.inside.least (map reported (exposed c.self.inside.instance (drop c.args.kept.waiting (map mark_of ms)) (drop c.args.kept.used c.self.inside.used)))) c.deref.ensures.value)
          (kept_marks c.args.kept.waiting c.self.inside.waiting.items c.truncate.new.self.items c.truncate.ensures.items)
          c.self.view_is;
    }
