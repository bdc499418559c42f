pub mod ScopeView
pub mod Walk
