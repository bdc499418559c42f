pub mod Items
pub mod Terms
pub mod Rules
pub mod ByCases
pub mod Clean
pub mod Functions
