-- The roots of a program: the functions that `check` lists, and among which an entry is looked up.
--
-- `check` prints a line for each root, in text order: its name, its kind, the sizes of its header's credits, and for a
-- fip one what a run of it holds of the stack at the most. For
--     fip fun rev(xs: list, acc: list): list { .. }
--     fbip fun len(^xs: list): int { .. }
--     fun dup(^xs: list): pair { .. }
-- these are the lines
--     rev fip stack 0 frames 9 words
--     len fbip
--     dup fun
use Rattle.std.specs.Prelude.{◌≡◌, ℕ, suc, List, [], ◌∷◌, ◌++◌, Option, Some, None, bytes_eq, slice_get}
use Rattle.std.specs.Prelude.{option_and_then, if◌then◌else◌}
use Rattle.fip_base.specs.declared.plain.Stack.{Stack}
use Rattle.fip_trees.specs.declared.groups.Member.{Member}
use Rattle.fip_trees.specs.Tree.{Instance, Program}
use Rattle.command_outcome.specs.Successes.{function_text}
use Rattle.program_front.specs.tail_groups.Members.{AreMembers}
use Rattle.program_front.specs.source_report.Report.{IsAccepted}

-- the line of an instance, where it is a root
abbrev pub root_line : Instance → Option Stack → List ℕ
root_line d stack = if d.root then function_text d.name d.kind d.credits stack else []

-- what a run of instance n holds of the stack at the most; none where it isn't fip
abbrev pub held : List Member → ℕ → Option Stack
held ms n = option_and_then (λ m. m.stack) (slice_get ms n)

-- the lines of these instances, of numbers from n on
abbrev pub root_lines : List Member → ℕ → List Instance → List ℕ
root_lines ms n [] = []
root_lines ms n (d ∷ ds) = root_line d (held ms n) ++ root_lines ms (suc n) ds

-- The text is what `check` prints for a source that breaks no rule.
pub record IsListing (source text : List ℕ) : Type 0 where
  pub program : Program
  pub accepted : IsAccepted source program
  pub members : List Member
  pub found : AreMembers program.instances members
  pub is : text ≡ root_lines members 0 program.instances

-- the first root of a name
abbrev pub root_named : List ℕ → List Instance → Option Instance
root_named name [] = None
root_named name (d ∷ ds) =
    if d.root then if bytes_eq d.name name then Some d else root_named name ds else root_named name ds
