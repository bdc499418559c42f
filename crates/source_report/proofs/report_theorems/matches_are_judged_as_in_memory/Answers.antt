use Rattle.source_report.proofs.Memory.{shapes_are, fault_forth, fault_back, right_forth, right_back}
use Rattle.source_report.proofs.report_theorems.matches_are_judged_as_in_memory.Goals as goal

pub returns-clause-shapes : goal.returns-clause-shapes
returns-clause-shapes c ds = shapes_are 0 ds

pub returns-clause-faults : goal.returns-clause-faults
returns-clause-faults c tb ds v = (fault_forth tb 0 ds v, fault_back tb 0 ds v)

pub returns-clause-right : goal.returns-clause-right
returns-clause-right c tb ds = (right_forth tb ds, right_back tb ds)
