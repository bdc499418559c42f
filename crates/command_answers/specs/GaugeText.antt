-- The lines of the gauge of `exec` and `gen`, by trees, of a run that gives values: as the lowest number of cells of
-- each size how many of them the results and the borrowed arguments have, as the highest how many the arguments and the
-- header's credits have.
--
-- The reversal of a list of three items has the lines
--     cells of 2: 3 to 3
--     stack: 0 frames, 9 words
--     bound: 0 frames, 9 words
use Rattle.std.specs.Prelude.{ℕ, ◌+◌, List}
use Rattle.command_library.specs.fip_language.Values.{Values, cells_of_all}
use Rattle.command_library.specs.fip_base.declared.plain.Param.{Param}
use Rattle.command_library.specs.session_semantics.Talk.{credits_of}
pub use Rattle.command_library.specs.machine_correctness.tree_refinement.LentValues.{lent_values}
pub use Rattle.command_library.specs.command_run.GaugeText.{gauge_text, gauge_by_states, highest_stack, if_asked}

-- most cells of size k: those of the arguments and of the header's credits
abbrev pub highest_of : List ℕ → Values → ℕ → ℕ
highest_of credits arguments k = cells_of_all k arguments + credits_of k credits

-- fewest: those of the results and of the borrowed arguments
abbrev pub lowest_of : List Param → Values → Values → ℕ → ℕ
lowest_of params arguments results k = cells_of_all k results + cells_of_all k (lent_values params arguments)
