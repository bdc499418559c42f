use Rattle.std.proofs.Common.{subst, sym, ap, ◌∙◌, length}
use Rattle.match_knowledge.specs.View.{known}
use Rattle.lower_parts.specs.lower_frame.Labels.{telling}
use Rattle.lower_parts.specs.lower_frame.Positions.{spot_of}
use Rattle.lower_parts.specs.lowering_relation.Written.{size}
use Rattle.lower_parts.specs.Overlays.{failed_reported}
use Rattle.lower_parts.specs.Scenes.{PlacesSide}
use Rattle.lower_parts.specs.Writing.{setting}
use Rattle.cell_lower.proofs.lowerer.Lowerer.put_side.Goals as goal

pub returns-in_ok-put_label-in-Some-clause-placed : goal.returns-in_ok-put_label-in-Some-clause-placed
returns-in_ok-put_label-in-Some-clause-placed c = let e = c.in_ok-put_label-in-Some.ensures in
    subst (λ o. PlacesSide c.args.self.now.buffer o (failed_reported (setting c.args.self.now.context.now) c.args.self.now.frame.held c.args.choice.now.ty (spot_of c.args.choice.now.root) (known c.args.known.now) c.args.read.now) c.put_label.new.self) (sym c.in-Some.is)
    (e.extends, ap length e.instrs, e.placed, e.same, e.reported ∙ ap (λ ks. telling (size c.args.self.now.buffer) ks c.args.self.now.buffer.maps) c.in_ok-kinds-in-Some.ensures.reported)
