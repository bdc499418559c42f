-- It serves the proof that lowered code is sound: what acceptance gives of an instance and its function.
use Rattle.std.specs.Prelude.{◌≡◌, ◌≤◌, ◌<◌, ℕ, true, length}
use Rattle.separation.specs.cell_code.declared.code.Instr.{Instr}
use Rattle.lowering_relation.specs.fip_trees.Tree.{Instance}
use Rattle.derivation_making.specs.fip_rules.World as R
use Rattle.derivation_making.specs.type_check.World as W
use Rattle.derivation_making.specs.type_check.Typing.{Typed}
use Rattle.derivation_making.specs.ownership_agreement.Bodies.{body_term, borrowed_parameters, owned_parameters}
use Rattle.derivation_making.specs.ownership_calculus.Functions.{Derived}
use Rattle.separation.specs.cell_code.Plain.{PlainFunction, PlainCode}
use Rattle.separation.specs.fip_language.Kinds.{is_fip}
use Rattle.separation.specs.code_rules.Flow.{IsInstr}
use Rattle.separation.specs.code_rules.Headers.{are_sizes}
use Rattle.separation.specs.code_rules.Limits.{most_credits, most_results, most_registers}
use Rattle.separation.specs.code_rules.Ranges.{in_range}
use Rattle.lowering_soundness.specs.Placed.{ParamsTyped}
use Rattle.lowering_soundness.specs.Functions.{IsNumbered}
use Rattle.lowering_soundness.specs.Built.{BuildsBlock}
use Rattle.lowering_relation.specs.Standing.{MapsStand}

-- a typed instance of which ownership and credits have a derivation, and whose constructors are of their types
pub record IsDerived (c : PlainCode) (wd : W.World) (w : R.World) (d : Instance) : Type 0 where
  pub numbered : IsNumbered w d
  pub typed : Typed true wd d
  pub params : ParamsTyped c d.params
  pub derived : Derived (is_fip d.kind) (borrowed_parameters w 0 d.params d.binders)
      (owned_parameters w 0 d.params d.binders) d.credits (body_term w d)
  pub builds : BuildsBlock c.types d.body

-- its header is within the limits, and the label maps of its function are in order
pub record IsWithinLimits (c : PlainCode) (f : PlainFunction) (d : Instance) : Type 0 where
  pub registers : f.registers ≤ most_registers
  pub results : 0 < length d.results
  pub few_results : length d.results ≤ most_results
  pub few_credits : length d.credits ≤ most_credits
  pub sizes : are_sizes d.credits ≡ true
  pub maps : MapsStand f

-- all numbers of its instructions are in range
abbrev pub IsInRange : PlainCode → PlainFunction → Type 0
IsInRange c f = (i : ℕ) (x : Instr) → IsInstr f i x → in_range c f i x ≡ true
