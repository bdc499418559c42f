use Rattle.match_cover.proofs.MissingValue.{missing_value}
use Rattle.match_cover.proofs.OneMissing.{one}
use Rattle.match_cover.proofs.theorems.missing_values_are_unmatched.Goals as goal

pub returns-clause-value : goal.returns-clause-value
returns-clause-value c tb t ps q y d h = missing_value tb t ps q y (d.0, d.1) d h

pub returns-clause-one : goal.returns-clause-one
returns-clause-one c tb t ps q r a b = one tb t ps (λ k. k) t ps q r a b
