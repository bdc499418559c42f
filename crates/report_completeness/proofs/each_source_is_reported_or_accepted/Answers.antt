use Rattle.report_completeness.proofs.Complete.{some_accepted}
use Rattle.report_completeness.proofs.each_source_is_reported_or_accepted.Goals as goal

pub returns : goal.returns
returns c = record { theorem = λ source none never. some_accepted source none (λ h. never h.0 h.1) }
