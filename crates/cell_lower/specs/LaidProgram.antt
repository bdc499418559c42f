-- It serves the proof that lowered code is sound: the code of a program is laid out as its instances ask, and its label
-- maps stand in order. What is asked of the program for that: each instance has a binder for each parameter, its
-- constructors are of their types, and what its expressions need is what is reported of them.
use Rattle.std.specs.Prelude.{◌≡◌, ◌≤◌, ℕ, true, List, length, drop, Some, slice_get}
use Rattle.fip_language.specs.Kinds.{is_fip}
use Rattle.fip_trees.specs.declared.needs.Need.{Need}
use Rattle.fip_trees.specs.NeedsView.{needs_of}
use Rattle.fip_trees.specs.SoundProgram.{AreHeaderCredits}
use Rattle.fip_trees.specs.Tree.{Instance, Program}
use Rattle.cell_code.specs.declared.code.Function.{Function}
use Rattle.cell_code.specs.Plain.{PlainFunction, PlainCode, plain_function, function_at}
use Rattle.lower_parts.specs.lowering_relation.Known.{Known}
use Rattle.lower_parts.specs.lowering_relation.Values.{Setting}
use Rattle.lower_parts.specs.lowering_relation.LoweredBodies.{has_function}
use Rattle.lower_parts.specs.lowering_relation.LoweredFunctions.{IsSettingOf}
use Rattle.lower_parts.specs.lowering_relation.WellMatched.{WellMatchedBlock}
use Rattle.lower_parts.specs.lowering_relation.LaidFunctions.{FunctionLaid, AreLaid}
use Rattle.lower_parts.specs.lowering_relation.Standing.{MapsStand}
use Rattle.lower_parts.specs.lower_frame.Registers.{registers}
use Rattle.lower_parts.specs.Bodies.{ScalarsRight, FoundedBlock, NeedsRest}

-- Of an instance that isn't plain, of which these needs are reported. The first one is that of its body as a whole.
pub record AskedInstance (s : Setting) (ns : List Need) (d : Instance) : Type 0 where
  pub ruled : has_function d.kind ≡ true
  pub binders : length d.binders ≡ length d.params
  pub founded : FoundedBlock s.types d.body
  pub needs : NeedsRest s (drop 1 ns) d.body

-- of a program, of which these needs are reported, those of each instance
pub record IsAsked (p : Program) (nss : List (List Need)) : Type 0 where
  pub each : (s : Setting) → IsSettingOf p s → (g : ℕ) (d : Instance) → slice_get p.instances g ≡ Some d →
      has_function d.kind ≡ true → AskedInstance s (needs_of nss g) d

-- In each code with these types this is the function of an instance, where that is as asked, of a sound program.
pub record IsLaidOf (s : Setting) (ns : List Need) (d : Instance) (f : Function) : Type 0 where
  pub by : ScalarsRight s → AreHeaderCredits d.credits → WellMatchedBlock s.types d.body → AskedInstance s ns d →
      (c : PlainCode) → c.types ≡ s.types → FunctionLaid c s (is_fip d.kind) (plain_function f) d
  pub stand : ScalarsRight s → AreHeaderCredits d.credits → WellMatchedBlock s.types d.body → AskedInstance s ns d →
      MapsStand (plain_function f)

-- of instance i
abbrev pub laid_at : Setting → List (List Need) → ℕ → Instance → Function → Type 0
laid_at s nss i d f = IsLaidOf s (needs_of nss i) d f

-- the code of a program is laid out, and its label maps stand in order
pub record IsLaidOut (p : Program) (c : PlainCode) : Type 0 where
  pub setting : Setting
  pub laid : AreLaid c setting p
  pub stand : (n : ℕ) (f : PlainFunction) → function_at c n ≡ Some f → MapsStand f
