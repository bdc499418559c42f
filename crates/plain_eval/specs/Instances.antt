-- The evaluation of an instance by its number, where its call was counted. It serves the proof that an evaluation gives what
-- its program means.
use Rattle.std.specs.Prelude.{ℕ, Option, Some, None, true, slice_get}
use Rattle.fip_trees.specs.fip_language.Values.{Values}
use Rattle.fip_trees.specs.fip_language.Meaning.{Run, Stuck, ends, entered, nothing_bound}
use Rattle.fip_trees.specs.Tree.{Instance, Program}
use Rattle.instance_semantics.specs.Registers.{frame_words}
use Rattle.instance_semantics.specs.Meaning.{bind_binders, evaluate_block}

-- the body of an instance on these values, where so many calls are left after the call was counted
abbrev pub body_meaning : Program → ℕ → Option Instance → Values → ℕ → Run
body_meaning program d None vs k = ends Stuck
body_meaning program d (Some f) vs k =
    entered (frame_words f)
    (evaluate_block program (frame_words f) f.body true d (bind_binders nothing_bound f.binders vs) k)

-- an instance by its number
abbrev pub instance_meaning : Program → ℕ → ℕ → Values → ℕ → Run
instance_meaning program d i vs k = body_meaning program d (slice_get program.instances i) vs k
