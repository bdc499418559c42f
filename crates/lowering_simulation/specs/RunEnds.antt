-- It serves the proof that lowered code means what its program means: how a run on trees ends, and how high its stack
-- was: the most frames beside the entry's, and the most words of all frames, where a function's frame has so many.
use Rattle.std.specs.Prelude.{◌≡◌, ◌+◌, ℕ, zero, suc, List, [], ◌∷◌, length}
use Rattle.tree_refinement.specs.fip_language.Meaning.{Answer, Peak, higher, Run as Evaluation}
use Rattle.tree_refinement.specs.cell_code.Plain.{PlainCode}
use Rattle.lowering_relation.specs.tree_semantics.States.{Frame, State}
use Rattle.lowering_relation.specs.tree_semantics.Runs.{Run, Going, Over, later, after}

-- after enough steps it is over, with this answer
pub record EndsIn (code : PlainCode) (r : Run) (a : Answer) : Type 0 where
  pub enough : ℕ
  pub last : State
  pub left : ℕ
  pub steps : ℕ
  pub is : after code enough r ≡ Over a last left steps

-- the words of frames, by those of each function's
abbrev pub words_of_all : (ℕ → ℕ) → List Frame → ℕ
words_of_all width [] = 0
words_of_all width (f ∷ fs) = width f.function + words_of_all width fs

abbrev pub height : (ℕ → ℕ) → State → Peak
height width s = record { frames = length s.waiting; words = words_of_all width (s.running ∷ s.waiting) }

-- the highest over the states from this moment on, over so many steps
abbrev pub highest : PlainCode → (ℕ → ℕ) → ℕ → Run → Peak
highest code width zero (Going s left steps) = height width s
highest code width (suc n) (Going s left steps) =
    higher (height width s) (highest code width n (later code (Going s left steps)))
highest code width zero (Over a s left steps) = height width s
highest code width (suc n) (Over a s left steps) = height width s

-- after enough steps it is over, with this answer, and this was its peak
pub record RunsTo (code : PlainCode) (width : ℕ → ℕ) (r : Run) (e : Evaluation) : Type 0 where
  pub enough : ℕ
  pub last : State
  pub left : ℕ
  pub steps : ℕ
  pub is : after code enough r ≡ Over e.answer last left steps
  pub peak : highest code width enough r ≡ e.peak
