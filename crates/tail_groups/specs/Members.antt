-- What is found of the instances of a program: groups, registers, and what runs of fip instances hold of the stack.
--
-- Where f of 5 words waits for g of 7, which calls itself in tail position, both fip, they are two groups; g holds 0
-- frames beside its own and 7 words, f holds 1 frame and 12 words.
use Rattle.std.specs.Prelude.{◌≡◌, ◌↔◌, ◌+◌, ℕ, true, List, map, length, Option, Some, None, slice_get, if◌then◌else◌}
use Rattle.fip_base.specs.declared.plain.Stack.{Stack}
use Rattle.fip_trees.specs.declared.groups.Member.{Member}
use Rattle.fip_language.specs.declared.limits.TheConstants.{FRAME_WORDS}
use Rattle.fip_trees.specs.Tree.{Instance}
use Rattle.call_groups.specs.Groups.{In, SameGroup}
use Rattle.call_groups.specs.Stacks.{AreStacks}
use Rattle.tail_groups.specs.Sites.{Site, instance_sites, call_rows}
use Rattle.tail_groups.specs.Registers.{registers}
use Rattle.tail_groups.specs.Rules.{is_fip}

-- the words of a fip instance's frame; none for the others
abbrev pub frame : Instance → Option ℕ
frame d = if is_fip d.kind then Some (registers d + FRAME_WORDS) else None

-- fip instances call fip ones alone
abbrev pub FipCallsFip : List Instance → Type 0
FipCallsFip ds =
    (i : ℕ) (d : Instance) (s : Site) → slice_get ds i ≡ Some d → is_fip d.kind ≡ true → In s (instance_sites d) →
    (e : Instance) × (slice_get ds s.callee ≡ Some e) × (is_fip e.kind ≡ true)

abbrev pub stack : Member → Option Stack
stack m = m.stack

-- One for each instance. The groups have the same number exactly where each instance reaches the other by calls, or
-- they are one. What runs of fip instances hold of the stack are the least numbers, and the others have none.
pub record AreMembers (ds : List Instance) (ms : List Member) : Type 0 where
  pub size : length ms ≡ length ds
  pub counted :
      (i : ℕ) (d : Instance) (m : Member) → slice_get ds i ≡ Some d → slice_get ms i ≡ Some m →
      m.registers ≡ registers d
  pub together :
      (i j : ℕ) (m n : Member) → slice_get ms i ≡ Some m → slice_get ms j ≡ Some n →
      (m.group ≡ n.group) ↔ SameGroup (call_rows ds) i j
  pub stacks : FipCallsFip ds → AreStacks (call_rows ds) (map frame ds) (map stack ms)
