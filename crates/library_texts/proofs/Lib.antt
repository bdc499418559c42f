mod Cutting
mod CoreParts
mod ListCore
mod ListCalls
mod TreeCalls
mod RedBlackCalls
mod FingerCalls
mod TreeCore
mod RedBlackCore
mod FingerCore
mod Deriving
mod Reading
mod Typing
mod Covering
mod Matches
mod Groups
mod StackNumbers
mod Accepting
pub mod ListText
pub mod TreeText
pub mod RedBlackText
pub mod FingerText
