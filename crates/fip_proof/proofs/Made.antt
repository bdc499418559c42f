-- What the walk gives is what is made, a derivation, and lean.
use Rattle.std.proofs.Common.{◌≡◌, List, sym, subst}
use Rattle.fip_trees.specs.declared.needs.Need.{Need}
use Rattle.fip_trees.specs.Tree.{Program}
use Rattle.derivation_trees.specs.Trees.{Entry}
use Rattle.derivation_check.specs.Accepted.{IsDerivation}
use Rattle.derivation_agreement.specs.derivation_making.Made.{made_entries}
use Rattle.derivation_agreement.specs.derivation_making.Weakening.{AllLean}
use Rattle.derivation_agreement.proofs.derivation_making.Programs.{program_derived, program_lean}
use Rattle.derivation_walk.specs.Walks.{AreWalked}
use Rattle.derivation_agreement.proofs.WalkWhole.{program_is}
use Rattle.fip_proof.specs.Ready.{IsReady}

pub is_made : (p : Program) (needs : List (List Need)) (es : List Entry) → AreWalked p needs 0 p.instances es → IsReady p needs → es ≡ made_entries p 0 p.instances
is_made p needs es k h = program_is p needs es h.needs h.numbered h.sized (program_derived p h.filled h.numbered h.sized h.accepted) k

pub is_derived : (p : Program) (needs : List (List Need)) (es : List Entry) → AreWalked p needs 0 p.instances es → IsReady p needs → IsDerivation p es
is_derived p needs es k h = subst (IsDerivation p) (sym (is_made p needs es k h)) (program_derived p h.filled h.numbered h.sized h.accepted)

pub is_lean : (p : Program) (needs : List (List Need)) (es : List Entry) → AreWalked p needs 0 p.instances es → IsReady p needs → AllLean es
is_lean p needs es k h = subst AllLean (sym (is_made p needs es k h)) (program_lean p h.sized h.accepted)
