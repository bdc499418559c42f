pub mod Token
pub mod Cut
pub mod WordView
pub mod Claims
pub mod Grammar
pub mod Machine
pub mod Limits
