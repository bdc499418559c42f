use Rattle.std.proofs.Common.{ap}
use Rattle.lowering_relation.specs.Known.{Known}
use Rattle.lower_frame.proofs.Growing.{field_added}
use Rattle.lower_frame.proofs.spots.add_field.Goals as goal

pub returns-clause-grow : goal.returns-clause-grow
returns-clause-grow c = field_added c.args.fields.now.items c.push.new.self.items c.new.result c.in_ok-register.register c.args.frame.now.next c.fresh.new.self.next c.in_ok-push.ensures.items c.new.ensures.alone c.in_ok-register.ensures.next (ap (λ (x : Known). x.next) c.in_ok-register.ensures.used)
