use Rattle.source_report.proofs.Once as Once
use Rattle.source_report.proofs.report_theorems.reported_once.Goals as goal

pub returns : goal.returns
returns c source q r h k = Once.reported_once source q r h k
