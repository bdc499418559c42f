use Rattle.std.proofs.Common.{Some, None}
use Rattle.fip_host.proofs.hosted.runs.frames_for.Goals as goal

pub returns-in-Some-clause-are : goal.returns-in-Some-clause-are
returns-in-Some-clause-are c = (Some c.in-Some.stack, c.in-Some.ensures.exact, c.min.ensures)

pub returns-in-None-clause-are : goal.returns-in-None-clause-are
returns-in-None-clause-are c = (None, c.in-None.ensures.exact, c.min-in-None.ensures)
