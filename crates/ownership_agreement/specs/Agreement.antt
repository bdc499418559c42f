-- What the theorem says of an instance, and of a program: it breaks no rule, and it is derived.
use Rattle.std.specs.Prelude.{◌≡◌, ℕ, true, List, [], ◌∷◌}
use Rattle.credit_check.specs.fip_trees.declared.least.Violation.{Violation}
use Rattle.credit_check.specs.fip_trees.Tree.{Instance, Program}
use Rattle.fip_rules.specs.Marks.{Breach}
use Rattle.fip_rules.specs.World.{world, is_fip, is_ruled}
use Rattle.fip_rules.specs.Checks as O
use Rattle.credit_check.specs.Credits as K
use Rattle.ownership_calculus.specs.Functions.{Derived}
use Rattle.ownership_agreement.specs.Sized.{IsSized}
use Rattle.ownership_agreement.specs.Bodies.{body_term, borrowed_parameters, owned_parameters}

-- It breaks none of the rules on ownership, nor of those on credits. Its number, i, is what a violation says, no more.
pub record BreaksNone (p : Program) (i : ℕ) (d : Instance) : Type 0 where
  pub owned : (b : Breach) → O.BreaksInstance p i d b → ⊥
  pub credited : (v : Violation) → K.BreaksInstance p i d.kind d v → ⊥

-- its body has a derivation from its parameters and the credits of its header
abbrev pub IsDerived : Program → Instance → Type 0
IsDerived p d =
    Derived (is_fip d.kind) (borrowed_parameters (world p d.kind) 0 d.params d.binders)
    (owned_parameters (world p d.kind) 0 d.params d.binders) d.credits (body_term (world p d.kind) d)

-- each fip or fbip instance of some is derived
abbrev pub AreDerived : Program → List Instance → Type 0
AreDerived p [] = Unit {0}
AreDerived p (d ∷ ds) = (is_ruled d.kind ≡ true → IsDerived p d) × AreDerived p ds

abbrev pub AreSized : Program → List Instance → Type 0
AreSized p [] = Unit {0}
AreSized p (d ∷ ds) = IsSized p d × AreSized p ds

-- a program violates none of these rules
pub record IsAccepted (p : Program) : Type 0 where
  pub owned : (v : Violation) → O.Violates p v → ⊥
  pub credited : (v : Violation) → K.Violates p v → ⊥
