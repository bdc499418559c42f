-- The types of the parameters of an instance, in their order.
use Rattle.std.specs.Prelude.{ℕ, List, map}
use Rattle.match_cover.specs.fip_trees.Tree.{Instance}
use Rattle.type_check.specs.World.{type_of}

-- the types of the parameters
abbrev pub parameter_types : Instance → List ℕ
parameter_types d = map type_of d.params
