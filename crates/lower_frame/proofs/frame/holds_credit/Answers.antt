use Rattle.std.proofs.Common.{sym, ◌∙◌}
use Rattle.lower_frame.proofs.Frames.{item}
use Rattle.lower_frame.proofs.Meeting.{credit_none, credit_some}
use Rattle.lower_frame.proofs.frame.holds_credit.Goals as goal

pub returns-in-None : goal.returns-in-None
returns-in-None c = record { credit = sym (credit_none c.args.helds.now c.args.register c.in-None.ensures.lookup.3) }

pub returns-in-Some : goal.returns-in-Some
returns-in-Some c = record { credit = c.is_credit.ensures.holds ∙ sym (credit_some c.args.helds.now c.args.register c.in-Some.held.now (item c.args.helds.now c.args.register c.in-Some.held.now c.in-Some.ensures.lookup.3.0 c.in-Some.ensures.lookup.1)) }
