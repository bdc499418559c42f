-- What a run of the entry of a source holds of the stack at the most, as the groups of its program report: none where
-- it isn't fip. Of rev on lists it is no frame beside its own, and 9 words.
use Rattle.std.specs.Prelude.{◌≡◌, ℕ, List, Option, Some, slice_get}
use Rattle.fip_base.specs.declared.plain.Stack.{Stack}
use Rattle.command_eval.specs.machine_correctness.fip_trees.declared.groups.Member.{Member}
use Rattle.command_eval.specs.machine_correctness.tail_groups.Members.{AreMembers}
use Rattle.command_eval.specs.EvalAnswer.{Entry}

-- The groups of the program report this of the entry.
abbrev pub IsBoundOf : {source name : List ℕ} → Entry source name → Option Stack → Type 0
IsBoundOf entry held = (members : List Member) → AreMembers entry.program.instances members → (i : ℕ) (m : Member) →
    slice_get entry.program.instances i ≡ Some entry.root → slice_get members i ≡ Some m → held ≡ m.stack
