-- It serves the proof that lowered code is sound: what gives up what is left, instruction by instruction, and what is
-- known after each. In fip only constructors without fields that were matched are; in fbip trees are dropped and
-- credits freed. Where register 0 holds a Nil that was matched and register 1 a list, Take 0 []; Drop 1 gives both up.
use Rattle.std.specs.Prelude.{◌≡◌, ◌⊎◌, ℕ, zero, suc, Bool, true, false, List, [], ◌∷◌, Some, slice_get, slice_set}
use Rattle.code_rules.specs.cell_code.declared.code.Instr.TheVariants as I
use Rattle.code_rules.specs.cell_code.Plain.{PlainFunction}
use Rattle.lowering_relation.specs.declared.held.Held.TheVariants as H
use Rattle.lowering_relation.specs.declared.held.Credit.{Credit}
use Rattle.lowering_relation.specs.Known.{Known, holding, using, used, used_all, IsTaken}
use Rattle.lowering_relation.specs.Describing.{Holding, held_at, is_tree, setting}

-- a constructor that was matched is used up
pub record EndsBare (f : PlainFunction) (at : ℕ) (k l : Known) : Type 0 where
  pub register : ℕ
  pub type : ℕ
  pub constructor : ℕ
  pub held : held_at k.held register ≡ H.Bare type constructor
  pub written : slice_get f.instrs at ≡ Some (I.Take register [])
  pub known : l ≡ holding k register H.Nothing

pub record Drops (f : PlainFunction) (at : ℕ) (k l : Known) : Type 0 where
  pub register : ℕ
  pub tree : is_tree (held_at k.held register) ≡ true
  pub written : slice_get f.instrs at ≡ Some (I.Drop register)
  pub known : l ≡ using k (used k.held register)

pub record Frees (f : PlainFunction) (at : ℕ) (k l : Known) : Type 0 where
  pub register : ℕ
  pub size : ℕ
  pub rest : List Credit
  pub taken : IsTaken k.credits size register rest
  pub written : slice_get f.instrs at ≡ Some (I.Free register)
  pub known : l ≡ record k { held = slice_set k.held register H.Nothing; credits = rest }

abbrev pub GivesOne : Bool → PlainFunction → ℕ → Known → Known → Type 0
GivesOne fip f at k l = EndsBare f at k l ⊎ ((fip ≡ false) × (Drops f at k l ⊎ Frees f at k l))

-- n instructions from `at` to `end` give up
abbrev pub GivesUp : Bool → PlainFunction → ℕ → ℕ → Known → ℕ → Known → Type 0
GivesUp fip f zero at k end l = (end ≡ at) × (l ≡ k)
GivesUp fip f (suc n) at k end l = (m : Known) × GivesOne fip f at k m × GivesUp fip f n (suc at) m end l

-- no constructor that was matched is left; in fbip nothing that is owned and no credit
pub record AllGivenUp (fip : Bool) (g : Holding) : Type 0 where
  pub bares : (r t c : ℕ) → g r ≡ H.Bare t c → ⊥
  pub trees : fip ≡ false → (r : ℕ) → is_tree (g r) ≡ false
  pub credits : fip ≡ false → (r n : ℕ) → g r ≡ H.Credit n → ⊥

-- registers that are spent as credits
abbrev pub spending : Holding → List ℕ → Holding
spending g [] = g
spending g (r ∷ rs) = spending (setting g r H.Nothing) rs

-- the results in these registers are the function's: what is left is given up before
pub record RetLaid (fip : Bool) (f : PlainFunction) (at : ℕ) (k : Known) (rs : List ℕ) (end : ℕ) : Type 0 where
  pub steps : ℕ
  pub stop : ℕ
  pub left : Known
  pub gives : GivesUp fip f steps at (record k { held = used_all k.held rs }) stop left
  pub done : AllGivenUp fip (held_at left.held)
  pub written : slice_get f.instrs stop ≡ Some (I.Ret rs)
  pub one : end ≡ suc stop
