-- How large a code of a program is, whatever its instructions are. A function has no more instructions and label maps
-- than the places of its instance allow, and none of the instructions, reached or not, lists more registers than the
-- instance's width allows; and it holds of the stack at the most what the groups report of the instance, as `check`
-- prints it of a root. (`code_bytes` says how long the file of such a code is.)
--
-- The function of
--     fip fun rev(xs: list, acc: list): list { .. }
-- holds 0 frames and 9 words at the most, and has no more instructions than 16 times its registers and 16, for each of
-- its places.
use Rattle.std.specs.Prelude.{◌≡◌, ℕ, List, length, Some, slice_get}
use Rattle.fip_trees.specs.declared.groups.Member.{Member}
use Rattle.fip_trees.specs.Tree.{Instance, Program}
use Rattle.program_front.specs.tail_groups.Members.{AreMembers}
use Rattle.machine_correctness.specs.compiler_correctness.code_size.Bounds.{IsWithin}
use Rattle.code_bytes.specs.Operands.{most_operands, HaveFew}
use Rattle.code_file.specs.CodeText.{CodeText}
use Rattle.cell_code.specs.Plain.{PlainFunction, PlainCode}
use Rattle.code_file.specs.declared.tags.Version.TheVariants.{Second}
use Rattle.machine_correctness.specs.compiler_correctness.lowering_relation.LoweredBodies.{function_of}
use Rattle.code_verify.specs.code_rules.StackNumbers.{HasStack}

-- Function n is that of instance i, and no larger than its places allow.
abbrev pub AreWithin : Program → List PlainFunction → Type 0
AreWithin p fs = (i n : ℕ) (d : Instance) (f : PlainFunction) → slice_get p.instances i ≡ Some d →
    function_of p.instances i ≡ Some n → slice_get fs n ≡ Some f →
    IsWithin p.types d (length f.instrs) (length f.labels)

-- The instructions of function n list no more registers than the width of instance i allows.
abbrev pub AreNarrow : Program → List PlainFunction → Type 0
AreNarrow p fs = (i n : ℕ) (d : Instance) (f : PlainFunction) → slice_get p.instances i ≡ Some d →
    function_of p.instances i ≡ Some n → slice_get fs n ≡ Some f → HaveFew (most_operands p.instances d) f.instrs

-- Each function holds of the stack at the most what the groups report of its instance, or nothing is reported of
-- either.
abbrev pub HaveStacks : Program → PlainCode → Type 0
HaveStacks p code = (members : List Member) → AreMembers p.instances members → (i n : ℕ) (m : Member) →
    function_of p.instances i ≡ Some n → slice_get members i ≡ Some m → HasStack code n m.stack

-- A code that has a file of the second version.
abbrev pub HasFile : PlainCode → Type 0
HasFile code = (file : List ℕ) × CodeText file Second code
