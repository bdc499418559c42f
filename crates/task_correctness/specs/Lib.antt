pub mod Answered
pub use Rattle.machine_correctness.specs.in_place_safety as in_place_safety
pub use Rattle.machine_correctness.specs.run_loading as run_loading
