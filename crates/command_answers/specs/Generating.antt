-- What `gen` ends in: it runs the library's text rbtree, entry build, on the keys that the seed draws, and reports what
-- the tree has.
--
-- Four lines are printed: how many keys were drawn, how many nodes the tree has, which is how many different keys there
-- are, and the least and the greatest of them, `none` where there is none. An input that has too many bytes isn't run
-- on; that of 100,000 keys, the most that words ask for, hasn't.
--
-- `gen 1 3` makes a tree of 1103527590, 377401575 and 662824084, and prints `keys 3`, `nodes 3`, `least 377401575` and
-- `greatest 1103527590`.
use Rattle.std.specs.Prelude.{◌<◌, ◌≤◌, ℕ, length, Ok, Err}
use Rattle.command_library.specs.fip_language.declared.limits.TheConstants.{MOST_FILE_BYTES}
use Rattle.command_library.specs.command_outcome.declared.failure.Failure.TheVariants as F
use Rattle.command_library.specs.MadeTree.{gen_input}
use Rattle.command_answers.specs.Drawn.{drawn_text}
use Rattle.command_answers.specs.Exec.{End}

pub data Generates (seed count : ℕ) : End → Type 0 where
  LongInput : MOST_FILE_BYTES < length (gen_input seed count) → Generates seed count (Err (F.BadInput MOST_FILE_BYTES))
  Drawn : length (gen_input seed count) ≤ MOST_FILE_BYTES → Generates seed count (Ok (drawn_text seed count))
