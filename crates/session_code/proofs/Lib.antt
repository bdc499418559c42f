pub use Rattle.session_correctness.proofs as session_correctness
