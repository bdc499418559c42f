pub mod StateView
