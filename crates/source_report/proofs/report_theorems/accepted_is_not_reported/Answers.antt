use Rattle.source_report.proofs.Once.{accepted_not}
use Rattle.source_report.proofs.report_theorems.accepted_is_not_reported.Goals as goal

pub returns : goal.returns
returns c source p r h k = accepted_not source p r h k
