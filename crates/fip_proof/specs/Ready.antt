-- What a derivation is made for: a typed program whose binders are numbered in the order of the text and which breaks
-- none of the rules on ownership (E50 to E55) and credits (E56 to E58, E62), with what its expressions need. So it is
-- with each program of an accepted source.
use Rattle.std.specs.Prelude.{◌≡◌, List}
use Rattle.fip_trees.specs.declared.needs.Need.{Need}
use Rattle.fip_trees.specs.Tree.{Program}
use Rattle.derivation_agreement.specs.type_check.Typing.{IsFilled}
use Rattle.derivation_walk.specs.credit_check.Tallies.{all_needs}
use Rattle.derivation_agreement.specs.ownership_agreement.Agreement.{AreSized, IsAccepted}
use Rattle.derivation_agreement.specs.derivation_making.Numbered.{AllNumbered}

pub record IsReady (p : Program) (held : List (List Need)) : Type 0 where
  pub needs : held ≡ all_needs p p.instances
  pub filled : IsFilled p
  pub numbered : AllNumbered p p.instances
  pub sized : AreSized p p.instances
  pub accepted : IsAccepted p
