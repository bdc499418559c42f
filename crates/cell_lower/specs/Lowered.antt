-- It serves the proofs on lowered code: the instructions of a function, the code of one instance, and of several.
use Rattle.std.specs.Prelude.{◌≡◌, ◌+◌, ℕ, Bool, true, false, List, [], ◌∷◌, ◌++◌, Some, slice_get}
use Rattle.fip_trees.specs.Tree.{Instance}
use Rattle.cell_code.specs.declared.code.Function.{Function}
use Rattle.cell_code.specs.declared.code.Instr.{Instr}
use Rattle.lower_parts.specs.lowering_relation.Values.{Setting}
use Rattle.lower_parts.specs.lowering_relation.LoweredBodies.{function_of}
use Rattle.lower_parts.specs.lowering_relation.LoweredFunctions.{IsFunction}
use Rattle.lower_parts.specs.lowering_relation.WellMatched.{WellMatchedBlock}

abbrev pub function_instrs : Function → List Instr
function_instrs f = f.instrs.items

-- where its patterns are typed, these are the instructions of an instance
pub record IsCodeOf (s : Setting) (d : Instance) (code : List Instr) : Type 0 where
  pub by : WellMatchedBlock s.types d.body → (n : ℕ) × IsFunction s n code d

-- those of instances, whose functions have numbers from n on
pub record HaveCodes (s : Setting) (ds : List Instance) (n : ℕ) (codes : List (List Instr)) : Type 0 where
  pub by : (g f : ℕ) (d : Instance) → function_of ds g ≡ Some f → slice_get ds g ≡ Some d →
      (code : List Instr) × (slice_get codes (n + f) ≡ Some code) × IsCodeOf s d code

-- what an instance adds to the codes of those before it: nothing where it is plain
abbrev pub AddsCode : Setting → Bool → Instance → List (List Instr) → List (List Instr) → Type 0
AddsCode s true d codes more = (code : List Instr) × (more ≡ codes ++ code ∷ []) × IsCodeOf s d code
AddsCode s false d codes more = more ≡ codes
