-- A run that is over stays as it is.
use Rattle.std.proofs.Common.{◌≡◌, refl, ℕ, zero, suc}
use Rattle.machine_semantics.specs.fip_language.Meaning.{Answer}
use Rattle.machine_semantics.specs.cell_code.Plain.{PlainCode}
use Rattle.tree_semantics.specs.States.{State}
use Rattle.tree_semantics.specs.Runs.{Over, after}

pub over_stays : (code : PlainCode) (n : ℕ) (a : Answer) (s : State) (left steps : ℕ) → after code n (Over a s left steps) ≡ Over a s left steps
over_stays code zero a s left steps = refl
over_stays code (suc n) a s left steps = over_stays code n a s left steps
