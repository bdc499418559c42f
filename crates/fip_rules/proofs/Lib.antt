pub mod Shared
pub mod Lists
pub mod LogTables
pub mod Scopes
pub mod Agree
pub mod Orders
pub mod Theorems
pub mod Steps
pub mod Waits
pub mod Views
pub mod Whole
pub use Rattle.fip_base.proofs as fip_base
