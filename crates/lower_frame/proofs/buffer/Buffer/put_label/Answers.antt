use Rattle.std.proofs.Common.{◌≡◌, rules, subst, sym, ap, ◌∙◌, map, Some, None, slice_get}
use Rattle.lowering_relation.specs.Written.{Extends, size}
use Rattle.lowering_relation.proofs.Placing.{put_there}
use Rattle.cell_code.specs.Plain.{plain_label}
use Rattle.lower_frame.proofs.Labels.{reported_extends}
use Rattle.lower_frame.proofs.buffer.Buffer.put_label.Goals as goal

pub returns-clause-extends : goal.returns-clause-extends
returns-clause-extends c = subst (λ x. Extends x (record { instrs = c.self.inside.instrs.items; places = c.place.new.places.items; maps = map plain_label c.report.new.labels.items })) c.self.view_is (reported_extends c.self.inside.instrs.items c.self.inside.places.items c.place.new.places.items c.self.inside.labels.items c.report.new.labels.items c.args.kinds.items c.args.label c.here-here.result c.here-here.result (subst (λ ps. slice_get ps c.args.label ≡ Some None) c.as_slice-2.ensures.value (c.is_free.ensures.free (search rules))) c.place.ensures.placed (c.here-here.ensures.here ∙ sym (ap size c.self.view_is)) c.in_ok-report.ensures.reported)

pub returns-clause-placed : goal.returns-clause-placed
returns-clause-placed c = put_there c.self.inside.instrs.items c.self.inside.places.items c.place.new.places.items (map plain_label c.report.new.labels.items) c.args.label c.here-here.result (size c.args.self.now) (subst (λ ps. slice_get ps c.args.label ≡ Some None) c.as_slice-2.ensures.value (c.is_free.ensures.free (search rules))) c.place.ensures.placed c.here-here.ensures.here
