use Rattle.std.proofs.Common.{arith}
use Rattle.lower_frame.proofs.Meeting.{both_met, met_here, met_there, met_fewer}
use Rattle.lower_frame.proofs.frame.Frame.meet.Goals as goal

pub returns-clause-here : goal.returns-clause-here
returns-clause-here c = met_here c.args.self.now c.args.other.now (record { held = c.in_ok-held.held.items; credits = c.in_ok-credits.credits.items; names = c.in_ok-names.names.items; next = c.self.inside.next }) (grind (arith, both_met))

pub returns-clause-there : goal.returns-clause-there
returns-clause-there c = met_there c.args.self.now c.args.other.now (record { held = c.in_ok-held.held.items; credits = c.in_ok-credits.credits.items; names = c.in_ok-names.names.items; next = c.self.inside.next }) (grind (arith, both_met))

pub returns-clause-fewer : goal.returns-clause-fewer
returns-clause-fewer c = met_fewer c.args.self.now c.args.other.now (record { held = c.in_ok-held.held.items; credits = c.in_ok-credits.credits.items; names = c.in_ok-names.names.items; next = c.self.inside.next }) (grind (arith, both_met))
