pub mod ValueHeads
pub mod Patterns
pub mod Known
pub mod Unmatched
pub mod Left
pub mod View
