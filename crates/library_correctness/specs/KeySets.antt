-- The tree that `build` makes of keys alone: it has just these keys, however often each was given. Of 3, 1, 3 with three
-- spare pads it has the keys 1 and 3, which are two different ones, with 400 calls and 100 frames.
use Rattle.std.specs.Prelude.{◌≡◌, ◌↔◌, ℕ, ◌+◌, ◌*◌, ◌^◌, ◌<◌, ◌≤◌, ℤ, List, length}
use Rattle.fip_language.specs.Every.{Among}
use Rattle.fip_language.specs.Meaning.{Answer}
use Rattle.evaluation_steps.specs.Gives.{GivesValue}
use Rattle.library_correctness.specs.Different.{different}
use Rattle.library_correctness.specs.RedBlack.{Tree, Pad, Pad0, Pad4, keys, tree_value, IsRedBlack}

-- a pad that has a cell for a node
abbrev pub IsSpare : Pad → Type 0
IsSpare Pad0 = ⊥
IsSpare (Pad4 a b c d) = Unit {0}

-- few keys, and 100 calls for each
pub record SufficeForKeys (new : List ℤ) (calls frames : ℕ) : Type 0 where
  pub few : length new < 2 ^ 20
  pub enough_calls : 100 * (length new + 1) ≤ calls
  pub enough_frames : 100 ≤ frames

-- the evaluation gives a red-black search tree with just these keys, and a node for each different one
pub record GivesKeys (new : List ℤ) (a : Answer) : Type 0 where
  pub tree : Tree
  pub is_red_black : IsRedBlack tree
  pub same : (j : ℤ) → Among j (keys tree) ↔ Among j new
  pub nodes : length (keys tree) ≡ different new
  pub gives : GivesValue (tree_value tree) a
