-- The claim that a claim of the code stands for.
use Rattle.std.specs.Prelude.{List, map}
use Rattle.data_types.specs.Marks as m
use Rattle.data_types.specs.declared.claims.Claim.{Claim}

abbrev pub claim : Claim → m.Claim
claim c = record { type = c.ty; arguments = c.arguments.items; marked = c.is_marked }

abbrev pub claims : List Claim → List m.Claim
claims = map claim
