-- With which calls and frames the functions of the library give their values, by the nodes of their arguments. For the
-- list 1, 2 (three nodes) 80 calls and 100 frames suffice.
use Rattle.std.specs.Prelude.{ℕ, ◌≤◌, ◌+◌, ◌*◌}
use Rattle.fip_language.specs.Values.{Values}
use Rattle.evaluation_steps.specs.Gives.{nodes_of_all}

pub record Suffice (arguments : Values) (calls frames : ℕ) : Type 0 where
  pub enough_calls : 16 * (nodes_of_all arguments + 2) ≤ calls
  pub enough_frames : 100 ≤ frames

-- for `build`
pub record SufficeSquared (arguments : Values) (calls frames : ℕ) : Type 0 where
  pub enough_calls : 16 * (nodes_of_all arguments + 2) * (nodes_of_all arguments + 2) ≤ calls
  pub enough_frames : 100 ≤ frames
