use Rattle.ownership_calculus.proofs.Whole.{is_derived, is_accepted}
use Rattle.ownership_calculus.proofs.derived.Goals as goal

pub returns : goal.returns
returns c = record { theorem = λ fip lent own header e. (is_derived fip lent own header e, is_accepted fip lent own header e) }
