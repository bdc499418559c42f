-- It serves the proof of what `derive` gives: what the walk's code looks up, without where it lies in memory.
use Rattle.std.specs.Prelude.{◌≡◌, List}
use Rattle.fip_trees.specs.declared.needs.Need.{Need}
use Rattle.fip_trees.specs.Tree.{Instance}
use Rattle.fip_rules.specs.World.{World}
use Rattle.derivation_trees.specs.Trees.{Tree}
use Rattle.derivation_walk.specs.Seen.{world_of}
use Rattle.derivation_walk.specs.Lookups.{IsOf}
use Rattle.derivation_walk.specs.declared.tables.Uses.{Uses}
use Rattle.derivation_walk.specs.declared.make.Guide.{Guide}
use Rattle.derivation_walk.specs.declared.make.Owned as M
use Rattle.derivation_walk.specs.declared.make.Asked as N
use Rattle.derivation_walk.specs.Walked.{Guided, Owned, Asked, walked_instance}

abbrev pub guided : Guide → Guided
guided g = record { world = world_of g.context.now; uses = g.uses.now; needs = g.needs.now }

abbrev pub holding : M.Owned → Owned
holding o = record { variables = o.variables.items; credits = o.credits }

abbrev pub asking : N.Asked → Asked
asking a = record { first = a.first; end = a.end; need = a.need }

-- the tree is what the walk gives, by tables of what is found in the instance
pub record IsWalked (w : World) (needs : List Need) (d : Instance) (t : Tree) : Type 0 where
  pub uses : Uses
  pub of : IsOf w d uses
  pub is : t ≡ walked_instance record { world = w; uses = uses; needs = needs } d
