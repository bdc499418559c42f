-- What `fp2_with_code` hands out beside what is left: the file that was fetched, and the code that was made, which is handed
-- out by itself only where it isn't left. After `compile` it is handed out; after `exec` it is what is left.
use Rattle.std.specs.Prelude.{◌≡◌, ℕ, List, Option, Some, None}
use Rattle.std.specs.declared.vec.Vec.{Vec}
use Rattle.std.specs.declared.alloc.Global.{Global}
use Rattle.command_words.specs.Words.{Command, Compile, IsCommand}
use Rattle.command_answers.specs.command_library.command_run.declared.running.Left.{Left}
use Rattle.fip_driver.specs.Left.{LeavesCells}

-- the bytes of a file, wherever they lie in memory
abbrev pub bytes_in : Option (Vec ℕ Global) → Option (List ℕ)
bytes_in None = None
bytes_in (Some v) = Some v.items

-- those that make a code of their source, or run one
abbrev pub HasCode : Command → Type 0
HasCode (Compile file out) = Unit {0}
HasCode c = LeavesCells c

-- A code is handed out by itself only where it isn't left, and the words ask for a command that makes or runs one.
abbrev pub HandsOut : List (List ℕ) → Option Left → Type 0
HandsOut words left = (left ≡ None) × ((c : Command) × IsCommand words c × HasCode c)
