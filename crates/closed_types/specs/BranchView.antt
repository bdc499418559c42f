-- What the values of the code stand for.
use Rattle.std.specs.Prelude.{List, map}
use Rattle.closed_types.specs.declared.closed.Closed.{Closed}
use Rattle.closed_types.specs.SharedTrees.{Branch}

-- the branch of a tree
abbrev pub branch : Closed → Branch
branch c = record { head = c.head; arguments = c.arguments.items }

abbrev pub branches : List Closed → List Branch
branches = map branch
