-- Bodies of the examples, as far as ownership goes, of a function with the owned parameter 0.
use Rattle.source_report.specs.ownership_calculus.Terms.{Named, Scalar, NoValues, MoreValues, Term, Results}

-- fip fun id(xs: ints): ints { xs }
abbrev pub given_back : Term
given_back = Results (MoreValues (Named 0) NoValues)

-- fip fun drop(xs: ints): int { 0 }
abbrev pub dropped : Term
dropped = Results (MoreValues Scalar NoValues)

-- fip fun two(xs: ints): (ints, ints) { (xs, xs) }
abbrev pub twice : Term
twice = Results (MoreValues (Named 0) (MoreValues (Named 0) NoValues))
