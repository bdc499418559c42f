-- A run that is over stays as it is.
use Rattle.std.proofs.Common.{◌≡◌, ℕ, zero, suc, refl}
use Rattle.cell_code.specs.Plain.{PlainCode}
use Rattle.machine_semantics.specs.States.{State}
use Rattle.machine_semantics.specs.Steps.{Kinds}
use Rattle.machine_semantics.specs.Runs.{End, Over, after}

pub over_stays : (kinds : Kinds) (code : PlainCode) (n : ℕ) (e : End) (s : State) (left steps : ℕ) → after kinds code n (Over e s left steps) ≡ Over e s left steps
over_stays kinds code zero e s left steps = refl
over_stays kinds code (suc n) e s left steps = over_stays kinds code n e s left steps
