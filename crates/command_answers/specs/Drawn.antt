-- What `gen` reports of the keys that a seed draws: how many are drawn, how many different ones these are, and the least
-- and the greatest of them. `gen 1 3` draws 1103527590, 377401575 and 662824084, three different ones.
use Rattle.std.specs.Prelude.{ℕ, ℤ, pos, List, map}
use Rattle.library_correctness.specs.Different.{different}
use Rattle.command_library.specs.command_outcome.Successes.{tree_text}
use Rattle.command_library.specs.task_semantics.Draws.{numbers}
use Rattle.command_library.specs.MadeTree.{ends_of}

abbrev pub drawn_keys : ℕ → ℕ → List ℤ
drawn_keys seed count = map pos (numbers count seed)

abbrev pub drawn_text : ℕ → ℕ → List ℕ
drawn_text seed count = tree_text count (different (drawn_keys seed count)) (ends_of (drawn_keys seed count))
