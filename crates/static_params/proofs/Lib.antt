pub mod PlaceNumbers
pub mod Made
pub mod FlatViews
pub mod Making
pub mod Tabling
pub mod Specialising
pub mod AnswerTheorems
pub mod Meanings
pub mod GoodTypes
pub mod GoodInstances
pub mod TypeRows
pub mod TypeValues
pub mod CoreSources
pub mod TableRows
pub mod ConstructorRows
pub mod FirstType
pub mod HeaderCredits
pub mod Sounding
pub use Rattle.data_types.proofs as data_types
pub use Rattle.reached_instances.proofs as reached_instances
