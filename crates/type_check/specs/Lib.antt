pub mod Found
pub mod Scope
pub mod Trail
pub mod Binders
pub mod Wanted
pub mod World
pub mod Plain
pub mod BoundVariables
pub mod Typing
pub mod Faults
pub mod Bound
pub mod Parameters
pub mod Answers
pub use Rattle.fip_language.specs as fip_language
