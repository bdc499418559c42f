use Rattle.std.proofs.Common.{rules}
use Rattle.lower_frame.proofs.Frames.{item}
use Rattle.lower_frame.proofs.Meeting.{held_missing, held_equal, held_other}
use Rattle.lower_frame.proofs.frame.held_if.Goals as goal

pub returns-in-None : goal.returns-in-None
returns-in-None c = record { both = held_missing c.args.held c.args.there.now c.args.place c.in-None.ensures.lookup.3 }

pub returns-then-eq : goal.returns-then-eq
returns-then-eq c = record { both = held_equal c.args.held c.in-Some.other.now c.args.there.now c.args.place (item c.args.there.now c.args.place c.in-Some.other.now c.in-Some.ensures.lookup.3.0 c.in-Some.ensures.lookup.1) (search rules) }

pub returns-else-eq : goal.returns-else-eq
returns-else-eq c = record { both = held_other c.args.held c.in-Some.other.now c.args.there.now c.args.place (item c.args.there.now c.args.place c.in-Some.other.now c.in-Some.ensures.lookup.3.0 c.in-Some.ensures.lookup.1) (search rules) }
