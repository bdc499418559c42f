pub mod Draws
pub mod Schedules
pub mod Projected
pub mod ScheduleExample
pub mod Laid
pub mod Ended
pub mod LoadedExample
pub mod Lying
pub use Rattle.run_loading.specs.machine_semantics as machine_semantics
pub use Rattle.run_loading.specs as run_loading
