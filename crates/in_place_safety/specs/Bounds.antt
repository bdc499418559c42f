-- What the theorem on the stack says of a run: with so many free frames it doesn't end for lack of one, and it never
-- holds more frames and words than its numbers say.
-- For example where f of 5 words waits for g of 7, which calls itself in tail position, a run of f holds one frame and
-- 12 words at the most, and one free frame is enough for it.
use Rattle.std.specs.Prelude.{◌≢◌, ◌≤◌, ℕ, List}
use Rattle.tail_groups.specs.fip_language.Meaning.{Deep, Run}
use Rattle.tail_groups.specs.fip_base.declared.plain.Stack.{Stack}
use Rattle.tail_groups.specs.fip_trees.declared.groups.Member.{Member}
use Rattle.tail_groups.specs.fip_trees.Tree.{Instance}
use Rattle.tail_groups.specs.Members.{AreMembers, FipCallsFip}
use Rattle.in_place_safety.specs.Scrutinees.{AllMatchVariables}

pub record IsWithin (s : Stack) (free : ℕ) (r : Run) : Type 0 where
  pub frames : r.peak.frames ≤ s.frames
  pub words : r.peak.words ≤ s.words
  pub enough : s.frames ≤ free → r.answer ≢ Deep

-- the members of these instances, of which fip ones call fip ones alone
pub record AreBounded (ds : List Instance) (ms : List Member) : Type 0 where
  pub members : AreMembers ds ms
  pub fip : FipCallsFip ds
  pub scrutinees : AllMatchVariables ds
