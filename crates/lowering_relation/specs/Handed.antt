-- It serves the proof that lowered code is sound: how results are handed on, and how operators and calls are in a
-- function's code, with what is given up before its end.
use Rattle.std.specs.Prelude.{◌≡◌, ℕ, suc, Bool, List, [], ◌∷◌, ◌++◌, Some, slice_get}
use Rattle.tree_semantics.specs.fip_language.declared.Place.{Place}
use Rattle.tree_semantics.specs.fip_language.declared.Operator.{Operator}
use Rattle.credit_check.specs.fip_trees.Tree.{Instance}
use Rattle.code_rules.specs.cell_code.declared.code.Instr.TheVariants as I
use Rattle.code_rules.specs.cell_code.Plain.{PlainFunction}
use Rattle.lowering_relation.specs.declared.held.Held.TheVariants as H
use Rattle.lowering_relation.specs.Known.{Known, joined}
use Rattle.lowering_relation.specs.Values.{Setting}
use Rattle.lowering_relation.specs.LoweredBodies.{Target, Return, Into, result_type, GoesTo, handed, AreTaken, IsCallOf}
use Rattle.lowering_relation.specs.Describing.{held_at}
use Rattle.lowering_relation.specs.Credits.{LastGone}
use Rattle.lowering_relation.specs.GivenUp.{GivesUp, AllGivenUp, RetLaid}
use Rattle.lowering_relation.specs.Moves.{MovesLaid}

-- results in registers are the function's, or go to registers
abbrev pub GivenLaid : Bool → PlainFunction → ℕ → Known → List ℕ → Target → ℕ → Known → Type 0
GivenLaid fip f at k rs Return end after = RetLaid fip f at k rs end
GivenLaid fip f at k rs (Into ds) end after = MovesLaid f.instrs at k rs ds end after

pub record OperationLaid (fip : Bool) (f : PlainFunction) (at : ℕ) (k : Known) (o : Operator) (p : Place) (x y : ℕ)
    (target : Target) (end : ℕ) (after : Known) : Type 0 where
  pub destination : ℕ
  pub holds : Known
  pub written : slice_get f.instrs at ≡ Some (I.Arith destination o x y p.line p.col)
  pub goes : GoesTo target k (H.Scalar (result_type o)) destination holds
  pub given : GivenLaid fip f (suc at) holds (destination ∷ []) target end after

-- the function's frame is replaced: what is left is given up before
pub record TailLaid (fip : Bool) (f : PlainFunction) (at : ℕ) (m : Known) (g : ℕ) (rs : List ℕ) (end : ℕ) : Type 0 where
  pub steps : ℕ
  pub stop : ℕ
  pub left : Known
  pub gives : GivesUp fip f steps at m stop left
  pub done : AllGivenUp fip (held_at left.held)
  pub written : slice_get f.instrs stop ≡ Some (I.Tail g rs)
  pub one : end ≡ suc stop

abbrev pub EndsCallLaid : Setting → Bool → PlainFunction → ℕ → Known → ℕ → List ℕ → List ℕ → Target → ℕ → Known → Type 0
EndsCallLaid s fip f at m g rs results Return end after = TailLaid fip f at m g rs end
EndsCallLaid s fip f at m g rs results (Into ds) end after = IsCallOf s f.instrs at m g rs results ds end after

-- a call of instance g with arguments in registers rs; the last credits of each size are handed over
pub record CallLaid (s : Setting) (fip : Bool) (f : PlainFunction) (at : ℕ) (k : Known) (g : ℕ) (rs : List ℕ)
    (target : Target) (end : ℕ) (after : Known) : Type 0 where
  pub function : ℕ
  pub instance : Instance
  pub credits : List ℕ
  pub m : Known
  pub numbered : joined (slice_get s.functions g) ≡ Some function
  pub there : slice_get s.instances g ≡ Some instance
  pub taken : AreTaken (record k { held = handed k.held instance.params rs }) instance.credits credits m
  pub last : LastGone k.credits m.credits
  pub ends : EndsCallLaid s fip f at m function (rs ++ credits) instance.results target end after
