-- What `gen` runs: the library's text rbtree, its entry build, and the room that it has.
use Rattle.std.specs.Prelude.{ℕ, List, codes}
use Rattle.fip_language.specs.declared.limits.TheConstants.{MOST_STORE_WORDS}
use Rattle.library_sources.specs.declared.rbtree.TheConstants.{TEXT}
use Rattle.command_words.specs.Words.{Room}

-- the library's text rbtree, and the name of its entry
abbrev pub tree_source : List ℕ
tree_source = TEXT.now

abbrev pub build : List ℕ
build = codes "build"

-- with these calls, frames and words
abbrev pub gen_room : Room
gen_room = record { calls = 1000000000; frames = 10000; words = MOST_STORE_WORDS }
