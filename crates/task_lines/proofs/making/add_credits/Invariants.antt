use Rattle.std.proofs.Common.{◌≡◌, length}
use Rattle.value_text.specs.Loaded.{AreCredits}
use Rattle.task_lines.proofs.CellsMade.{AreCrediting}
use Rattle.task_lines.proofs.making.add_credits.Given as goal

-- the cells of the first credits are made
abbrev pub invariant-loop-size : goal.invariant-loop-size
invariant-loop-size l = AreCredits l.credits → length l.initial.loader.released ≡ length l.initial.loader.cells → AreCrediting l.credits l.size-index l.initial.loader l.loader l.initial.words.items l.words.items
