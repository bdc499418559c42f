-- For the proofs alone: how what is known of the instances is put together.
use Rattle.std.specs.Prelude.{◌≡◌, ◌+◌, ℕ, suc, List, [], ◌∷◌, map, length, get_or, Option, Some, None, if◌then◌else◌}
use Rattle.fip_base.specs.declared.plain.Stack.{Stack}
use Rattle.fip_trees.specs.declared.groups.Member.{Member}
use Rattle.fip_language.specs.declared.limits.TheConstants.{FRAME_WORDS}
use Rattle.fip_trees.specs.Tree.{Instance}
use Rattle.call_groups.specs.CallGraph.{group_number, IsPartition}
use Rattle.call_groups.specs.Stacks.{AreAsked, AreStacks}
use Rattle.call_groups.specs.declared.search.Partition.{Partition}
use Rattle.tail_groups.specs.Sites.{call_rows}
use Rattle.tail_groups.specs.Registers.{registers}
use Rattle.tail_groups.specs.Rules.{is_fip}
use Rattle.tail_groups.specs.declared.check.Counted.{Counted}

abbrev pub counted : Instance → Counted
counted d = record { kind = d.kind; registers = registers d }

abbrev pub frame_by : Counted → Option ℕ
frame_by c = if is_fip c.kind then Some (c.registers + FRAME_WORDS) else None

abbrev pub member : Partition → List (Option Stack) → ℕ → Counted → Member
member p ss n c = record { group = group_number p n; registers = c.registers; stack = get_or ss n None }

-- from number n on
abbrev pub members_from : Partition → List (Option Stack) → ℕ → List Counted → List Member
members_from p ss n [] = []
members_from p ss n (c ∷ cs) = member p ss n c ∷ members_from p ss (suc n) cs

-- the members, by the groups and stack numbers of these instances
pub record AreFound (ds : List Instance) (ms : List Member) : Type 0 where
  pub groups : Partition
  pub right : IsPartition (call_rows ds) groups
  pub stacks : List (Option Stack)
  pub size : length stacks ≡ length (map frame_by (map counted ds))
  pub least :
      AreAsked (call_rows ds) groups (map frame_by (map counted ds)) →
      AreStacks (call_rows ds) (map frame_by (map counted ds)) stacks
  pub members : ms ≡ members_from groups stacks 0 (map counted ds)
