-- It serves the proof that lowered code is sound: what of a program and its code is shared.
use Rattle.std.specs.Prelude.{◌≡◌, ℕ, ◌<◌, Bool, true, List, Some, length, slice_get}
use Rattle.lowering_relation.specs.fip_trees.Tree.{Instance}
use Rattle.derivation_making.specs.fip_rules.Marks.{Mark}
use Rattle.derivation_making.specs.fip_rules.Shapes.{known}
use Rattle.derivation_making.specs.type_check.Scope.{Scope, of_binder}
use Rattle.derivation_making.specs.type_check.World.{World}
use Rattle.derivation_making.specs.type_check.Typing.{Makes}
use Rattle.derivation_making.specs.ownership_agreement.Bodies.{Scalars}
use Rattle.separation.specs.cell_code.Plain.{PlainCode, results}
use Rattle.separation.specs.code_rules.Codes.{params, credits}
use Rattle.separation.specs.code_rules.Headers.{are_types}
use Rattle.separation.specs.code_rules.Types.{is_type, is_scalar_type}
use Rattle.lowering_relation.specs.Known.{joined}
use Rattle.lowering_relation.specs.Values.{Setting, is_scalar}

-- function f of the code is that of an instance
pub record IsFunctionOf (c : PlainCode) (f : ℕ) (d : Instance) : Type 0 where
  pub there : f < length c.functions
  pub params : params c f ≡ d.params
  pub credits : credits c f ≡ d.credits
  pub results : results c f ≡ d.results
  pub typed : are_types c.types d.results ≡ true

-- what the code and the typed program share
pub record Shares (c : PlainCode) (st : Setting) (w : World) : Type 0 where
  pub types : w.types ≡ c.types
  pub scalars : (t : ℕ) → is_type c.types t ≡ true → is_scalar st t ≡ is_scalar_type c.types t
  pub bool : is_scalar_type c.types 1 ≡ true
  pub functions : (g f : ℕ) (d : Instance) → joined (slice_get st.functions g) ≡ Some f →
      slice_get st.instances g ≡ Some d → IsFunctionOf c f d
  pub made : (b : Bool) (d t : ℕ) → Makes w b d t → is_type c.types t ≡ true

-- the variables in scope: each is known by its own number, and whether it is scalar
pub record Scoped (c : PlainCode) (s : Scope) (sc : Scalars) (ms : List Mark) : Type 0 where
  pub seen : (x t : ℕ) → of_binder s (Some x) ≡ Some (Some t) → known ms x ≡ Some x
  pub scalar : (x t : ℕ) → of_binder s (Some x) ≡ Some (Some t) → sc x ≡ is_scalar_type c.types t
