pub mod Slots
pub mod Moving
pub mod Giving
pub mod Choosing
pub mod Waiting
pub mod InstanceCalls
pub mod Steps
pub mod Forms
