use Rattle.source_report.proofs.Once as Once
use Rattle.source_report.proofs.report_theorems.accepted_once.Goals as goal

pub returns : goal.returns
returns c source p q h k = Once.accepted_once source p q h k
