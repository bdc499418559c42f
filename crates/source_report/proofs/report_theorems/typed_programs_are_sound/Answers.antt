use Rattle.source_report.proofs.Ready.{typed_formed, typed_fits, typed_ready}
use Rattle.source_report.proofs.report_theorems.typed_programs_are_sound.Goals as goal

pub returns-clause-well_formed : goal.returns-clause-well_formed
returns-clause-well_formed c source p h = typed_formed source p h

pub returns-clause-literals : goal.returns-clause-literals
returns-clause-literals c source p h = typed_fits source p h

pub returns-clause-ready : goal.returns-clause-ready
returns-clause-ready c source p ds h slots of' = typed_ready source p ds h slots of'
