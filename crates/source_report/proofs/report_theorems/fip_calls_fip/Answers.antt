use Rattle.source_report.proofs.FipCalls.{fip_calls}
use Rattle.source_report.proofs.report_theorems.fip_calls_fip.Goals as goal

pub returns : goal.returns
returns c source p h = fip_calls source p h
