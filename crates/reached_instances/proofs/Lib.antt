pub mod GivenStatics
pub mod Walked
pub mod Closing
pub mod Fitting
pub mod Gathering
pub mod Reaching
pub mod Declaring
pub mod Putting
pub mod Mentioned
pub mod Typing
pub mod Checking
pub mod Fielding
pub use Rattle.closed_types.proofs as closed_types
