use Rattle.std.proofs.Common.{◌≡◌, drop}
use Rattle.match_knowledge.specs.View.{parts, knowns}
use Rattle.lower_parts.specs.Scenes.{asking}
use Rattle.lower_parts.proofs.choice.first_asking.Given as goal

abbrev pub invariant-loop-part : goal.invariant-loop-part
invariant-loop-part l = record {
  place : l.field ≡ l.part-index;
  first : asking (parts (drop l.part-index l.parts)) (knowns (drop l.field l.knowns)) l.field ≡ asking (parts l.parts) (knowns l.knowns) 0;
}
