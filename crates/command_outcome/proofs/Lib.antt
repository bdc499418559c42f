pub use Rattle.fip_base.proofs as fip_base
