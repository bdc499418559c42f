use Rattle.std.proofs.Common.{◌≤◌, subst, length}
use Rattle.lowering_relation.specs.Written.{Written}
use Rattle.lower_frame.specs.Labels.{labels}
use Rattle.lower_frame.proofs.Labels.{placed_few}
use Rattle.lower_frame.proofs.Spelt.{labels_spelt}
use Rattle.lower_frame.proofs.buffer.Buffer.into_parts.Goals as goal

pub returns-clause-few : goal.returns-clause-few
returns-clause-few c = subst (λ (x : Written). length c.self.inside.labels.items ≤ labels x) c.self.view_is (placed_few c.self.inside.places.items (length c.self.inside.labels.items) c.self.invariant.0)

pub returns-clause-spelt : goal.returns-clause-spelt
returns-clause-spelt c = (c.settle_all.ensures.spelt c.self.invariant.2, labels_spelt c.self.inside.instrs.items c.self.inside.labels.items c.self.invariant.2 c.self.invariant.1 c.self.invariant.3)
