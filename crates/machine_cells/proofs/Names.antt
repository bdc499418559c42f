-- The places that words name.
use Rattle.std.proofs.Common.{◌≡◌, ◌≢◌, ℕ, zero, suc, ◌/◌, ◌<◌, true, Option, Some, None, refl, arith}
use Rattle.std.specs.Prelude.{nat_eq, not}
use Rattle.std.proofs.lemmas.Bool.Decides.{nat_tests}
use Rattle.fip_language.specs.Store.{Cell}
use Rattle.cell_store.specs.Cells.{Cells, cell_at, size_in}
use Rattle.machine_cells.specs.Small.{IsSmall}
use Rattle.machine_cells.proofs.Pendings.{place_within}

-- the word of a cell that is there names a place of 32 bits
pub place_is : (cs : Cells) (w p : ℕ) → IsSmall cs → cell_at cs (w / 2) ≢ None → (w / 2 < 4294967296 → p ≡ w / 2) → p ≡ w / 2
place_is cs w p small there e = let within = place_within cs (w / 2) there in e (omega (arith, within, small))

-- a cell that has a field is there
pub size_there : (o : Option Cell) (i : ℕ) → i < size_in o → o ≢ None
size_there None i h e = omega (arith, h)
size_there (Some c) i h e = absurd cc

-- a constant that isn't 0 is true
pub is_set : (v : ℕ) → v ≢ 0 → not (nat_eq v 0) ≡ true
is_set zero h = absurd (h refl)
is_set (suc v) h = grind (arith, nat_tests)
