-- It serves the proof that lowered code has the peak of its program: how many words the frames of functions have. That
-- of an instance's function has a word for each register of the instance, and two more.
use Rattle.std.specs.Prelude.{◌≡◌, ℕ, Some, slice_get}
use Rattle.lowering_relation.specs.fip_trees.Tree.{Instance, Program}
use Rattle.lowering_relation.specs.instance_semantics.Registers.{frame_words}
use Rattle.lowering_relation.specs.LoweredBodies.{function_of}

abbrev pub AreWide : Program → (ℕ → ℕ) → Type 0
AreWide program width = (g f : ℕ) (d : Instance) → function_of program.instances g ≡ Some f →
    slice_get program.instances g ≡ Some d → width f ≡ frame_words d
