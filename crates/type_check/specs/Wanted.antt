-- What is expected of several arguments: whether types are expected, and these types.
use Rattle.std.specs.Prelude.{ℕ, Bool, true, false, List, [], map, Option, Some}
use Rattle.type_check.specs.declared.expected.Wants.{Wants}
use Rattle.type_check.specs.declared.expected.Wants.TheVariants.{Nothing, Known, Partial}

abbrev pub expects : Wants → Bool
expects Nothing = false
expects (Known ts) = true
expects (Partial ts) = true

abbrev pub types_of : Wants → List (Option ℕ)
types_of Nothing = []
types_of (Known ts) = map Some ts.now
types_of (Partial ts) = ts.now
