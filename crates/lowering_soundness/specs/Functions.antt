-- It serves the proof that lowered code is sound: how the binders of an instance are numbered.
use Rattle.std.specs.Prelude.{◌≡◌, ◌≤◌, length}
use Rattle.lowering_relation.specs.fip_trees.Tree.{Instance}
use Rattle.derivation_making.specs.fip_rules.World as R
use Rattle.derivation_making.specs.fip_rules.Shapes.{within, parameters, no_names}
use Rattle.lowering_soundness.specs.Placed.{InOrder, NumberedBlock}

-- An instance has a binder for each parameter, and all its binders are numbered in the order of the text.
pub record IsNumbered (w : R.World) (d : Instance) : Type 0 where
  pub as_many : length d.binders ≡ length d.params
  pub order : InOrder 0 d.binders
  pub many : length d.params ≤ d.variables
  pub body : NumberedBlock w d.variables (within no_names (parameters w d.params d.binders)) d.body
