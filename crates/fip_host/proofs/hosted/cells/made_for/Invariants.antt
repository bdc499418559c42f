-- A cell was made for each size so far, and its word stands after the others.
use Rattle.std.proofs.Common.{take}
use Rattle.fip_host.specs.Making.{HasMade}
use Rattle.fip_host.proofs.hosted.cells.made_for.Given as goal

abbrev pub invariant-loop-size : goal.invariant-loop-size
invariant-loop-size l = HasMade (take l.size-index l.credits) l.initial.words.items l.words.items l.initial.loader l.loader
