use Rattle.source_report.proofs.TypedOrder.{typed_ordered}
use Rattle.source_report.proofs.binder_theorems.typed_programs_number_their_binders.Goals as goal

pub returns : goal.returns
returns c = record { theorem = typed_ordered }
