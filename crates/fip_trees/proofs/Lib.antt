pub mod TreeViews
pub mod TypedPrograms
pub mod RuleNames
pub mod Leasts
pub mod ScalarTables
pub mod SizeLists
pub mod NeedsLists
pub mod MeaningLists
pub use Rattle.fip_base.proofs.fip_language as fip_language
pub use Rattle.fip_base.proofs as fip_base
