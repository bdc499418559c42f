use Rattle.source_report.proofs.Distinct.{typed_distinct}
use Rattle.source_report.proofs.binder_theorems.typed_programs_have_distinct_binders.Goals as goal

pub returns : goal.returns
returns c = record { theorem = typed_distinct }
