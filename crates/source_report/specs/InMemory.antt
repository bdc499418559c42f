-- It serves the proofs on matches: instances as they lie in memory that are those of a program.
use Rattle.std.specs.Prelude.{◌≡◌, List}
use Rattle.cell_lower.specs.fip_trees.declared.program.Instance.{Instance}
use Rattle.cell_lower.specs.fip_trees.Tree.{Program}
use Rattle.cell_lower.specs.fip_trees.TreeView.{instances}

abbrev pub AreOf : Program → List Instance → Type 0
AreOf p ds = instances ds ≡ p.instances
