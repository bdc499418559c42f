-- It serves the proof of what derivation_text gives: the line of an instance after a text.
use Rattle.std.specs.Prelude.{◌≡◌, ℕ, List, [], ◌++◌}
use Rattle.fip_trees.specs.declared.needs.Need.{Need}
use Rattle.fip_trees.specs.Tree.{Instance}
use Rattle.derivation_walk.specs.fip_rules.World.{World}
use Rattle.derivation_trees.specs.Trees.{Tree}
use Rattle.derivation_trees.specs.WholeTrees.{IsWhole}
use Rattle.derivation_text.specs.ProofText.{line_text}
use Rattle.derivation_text.specs.Limited.{Limited}
use Rattle.derivation_walk.specs.Guides.{IsWalked}

-- new is old with the line of what the walk gives for the instance of this number
pub record IsLine (w : World) (needs : List Need) (d : Instance) (number : ℕ) (old new : Limited) : Type 0 where
  pub tree : Tree
  pub whole : IsWhole tree
  pub walked : IsWalked w needs d tree
  pub bytes : new.bytes ≡ old.bytes ++ line_text (record { instance = number; tree = tree }) []
  pub limit : new.limit ≡ old.limit
