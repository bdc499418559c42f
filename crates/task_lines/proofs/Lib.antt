mod Arguments
mod Credits
mod Next
mod Values
mod Calling
mod CellsMade
mod CallMade
mod Listing
mod Starting
pub use Rattle.session_lines.proofs.instance_semantics as instance_semantics
