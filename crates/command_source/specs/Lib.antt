pub mod Roots
pub mod Places
pub mod Wanted
pub mod FunctionNumbers
pub mod Entries
pub mod Judged
pub mod Codes
pub mod CodeShape
pub mod ProgramCode
pub mod Derived
pub use Rattle.code_bytes.specs as code_bytes
pub use Rattle.code_verify.specs as code_verify
pub use Rattle.program_front.specs.data_types as data_types
pub use Rattle.fip_proof.specs.derivation_making as derivation_making
pub use Rattle.fip_trees.specs as fip_trees
pub use Rattle.program_front.specs.source_report as source_report
pub use Rattle.program_front.specs.static_params as static_params
pub use Rattle.machine_correctness.specs.compiler_correctness.type_safety as type_safety
pub use Rattle.machine_correctness.specs as machine_correctness
