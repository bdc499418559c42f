pub mod Standing
pub mod Loaded
pub mod Printed
