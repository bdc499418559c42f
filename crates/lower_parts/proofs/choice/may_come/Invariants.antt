use Rattle.std.proofs.Common.{take}
use Rattle.fip_language.specs.Every.{Every}
use Rattle.match_knowledge.specs.View.{row}
use Rattle.lower_parts.specs.Scenes.{sides_of}
use Rattle.lower_parts.specs.Testing.{Misses}
use Rattle.lower_parts.proofs.choice.may_come.Given as goal

abbrev pub invariant-loop-next : goal.invariant-loop-next
invariant-loop-next l = Every (Misses (row l.row)) (sides_of (take l.next-index l.sides))
