use Rattle.tree_refinement.proofs.Alike.{highest_alike, lowest_alike}
use Rattle.tree_refinement.proofs.Ends.{ends_alike}
use Rattle.tree_refinement.proofs.Stacks.{frames_alike, words_alike}
use Rattle.tree_refinement.proofs.gauge_theorems.a_run_is_the_same_wherever_its_cells_lie.Goals as goal

pub returns : goal.returns
returns c = record { ends = ends_alike; frames = frames_alike; words = words_alike; highest = highest_alike; lowest = lowest_alike }
