pub mod Standing
pub mod FirstStore
pub mod ParameterTypes
pub mod Loaded
pub mod Machine
pub mod Scan
pub mod Reading
pub mod Counting
pub mod Building
pub mod Answered
pub mod Printing
pub mod Single
pub mod Alone
pub use Rattle.fip_base.specs as fip_base
